-- Working definitions: drafts that fit the tables, and entries that add to one.
use Rattle.std.specs.Prelude.{ℕ, ◌+◌, ◌≤◌, ◌≡◌, true, List, length, Some}
use Rattle.text.specs.Bytes.{Bytes}
use Rattle.values.specs.Values.{Value, plain, link, kind_of}
use Rattle.language.specs.Register.{Property, kind_among}
use Rattle.language.specs.RegisterText.{Entry, prop, page, cat, val, close, value_of}
use Rattle.language.specs.Rules.{is_storable}
use Rattle.register_form.specs.Dictionary.{Dictionary}
use Rattle.register_form.specs.Form.{joined}

-- So many properties, pages, forms and bytes of names at most; each has one text at most, with one byte before its names.
pub record Sized (d : Dictionary) (p g f b : ℕ) : Type 0 where
  pub properties : length d.properties ≤ p
  pub pages : length d.pages ≤ g
  pub terms : length d.terms ≤ f
  pub texts : length d.texts ≤ p + g + f
  pub bytes : length (joined d.texts) ≤ b + length d.texts

-- A draft that fits the tables: at most 2,368 texts, of 35,136 bytes.
abbrev pub Fits : Dictionary → Type 0
Fits d = Sized d 64 256 2048 32768

-- A val has a value that keeps its rule, of its property's kind.
pub record Valued (ps : List Property) (x v : Bytes) : Type 0 where
  pub value : Value
  pub read : value_of ps x v ≡ Some value
  pub kind : kind_among ps x ≡ Some (kind_of value)
  pub storable : is_storable value ≡ true

-- What is known of an entry of an accepted text.
abbrev pub Good : List Property → Entry → Type 0
Good ps (prop x k) = Unit {0}
Good ps (page n x) = length n ≤ 64
Good ps (cat x) = Unit {0}
Good ps (val x v) = Valued ps x v
Good ps close = Unit {0}

-- The names of a link are short.
abbrev pub Spaced : Value → Type 0
Spaced (plain c) = Unit {0}
Spaced (link i) = (length i.namespace ≤ 64) × (length i.article ≤ 64)
