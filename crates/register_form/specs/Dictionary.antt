-- A register as a dictionary: each text once, each term once, both in ascending order; properties and pages are rows of their
-- numbers. This page says which register a dictionary describes.
use Rattle.std.specs.Prelude.{ℕ, ◌-◌, Bool, cond, List, [], ◌∷◌, ◌++◌, map, eqb, length, get_or, take, drop}
use Rattle.text.specs.Bytes.{Bytes}
use Rattle.values.specs.declared.Kind.{Kind}
use Rattle.values.specs.Names.{Identifier}
use Rattle.values.specs.Values.{scalar, string, Value, plain, link}
use Rattle.language.specs.Register.{Property, Held, Page, Register}
use Rattle.buffer.specs.Numbers.{eight_bytes, eight_at}

pub record PropertyRow : Type 0 where
  pub kind : Kind
  -- the number of the text that is its name
  pub name : ℕ

pub record PageRow : Type 0 where
  -- the number of the text that is its identifier
  pub identifier : ℕ
  -- the numbers of its terms: its categories, then its values
  pub forms : List ℕ

pub record Dictionary : Type 0 where
  pub properties : List PropertyRow
  pub pages : List PageRow
  pub terms : List Bytes
  pub texts : List Bytes

-- A text is a name with its namespace before it; the first byte tells how long the namespace is.
unfoldable pub labelled : Bytes → Bytes → Bytes
labelled n x = length n ∷ (n ++ x)

unfoldable pub space_of : Bytes → Bytes
space_of t = take (get_or t 0 0) (drop 1 t)

unfoldable pub name_of : Bytes → Bytes
name_of t = drop (get_or t 0 0) (drop 1 t)

abbrev pub identifier_of : Bytes → Identifier
identifier_of t = record { namespace = space_of t; article = name_of t }

-- A term is a group and a code. Group 0 is the categories, the group after p the values of property p.
abbrev pub term_of : ℕ → ℕ → Bytes
term_of group code = group ∷ eight_bytes code

abbrev pub group_of : Bytes → ℕ
group_of t = get_or t 0 0

abbrev pub term_code : Bytes → ℕ
term_code t = eight_at t 1

abbrev pub is_category : Bytes → Bool
is_category t = eqb (group_of t) 0

-- The value of a kind that a code tells: a scalar's own code, or a text's number.
abbrev pub value_from : List Bytes → Kind → ℕ → Value
value_from texts Kind.Page c = link (identifier_of (get_or texts c []))
value_from texts (Kind.Scalar k) c = plain (scalar k c)
value_from texts Kind.String c = plain (string (name_of (get_or texts c [])))

module _ (d : Dictionary) where
  abbrev pub text_in : ℕ → Bytes
  text_in x = get_or d.texts x []

  abbrev pub term_in : ℕ → Bytes
  term_in f = get_or d.terms f []

  abbrev pub no_property : PropertyRow
  no_property = record { kind = Kind.Page; name = 0 }

  abbrev pub property_in : ℕ → PropertyRow
  property_in p = get_or d.properties p no_property

  -- The category, or the value with its property, that a term is.
  unfoldable pub category_of : Bytes → Bytes
  category_of t = name_of (text_in (term_code t))

  unfoldable pub held_of : Bytes → Held
  held_of t =
      record {
        property = name_of (text_in (property_in (group_of t - 1)).name);
        value = value_from d.texts (property_in (group_of t - 1)).kind (term_code t);
      }

  -- The categories and the values among the terms of a page.
  unfoldable pub categories_in : List Bytes → List Bytes
  categories_in [] = []
  categories_in (t ∷ l) = cond (is_category t) (category_of t ∷ categories_in l) (categories_in l)

  unfoldable pub values_in : List Bytes → List Held
  values_in [] = []
  values_in (t ∷ l) = cond (is_category t) (values_in l) (held_of t ∷ values_in l)

  unfoldable pub decode_property : PropertyRow → Property
  decode_property p = record { name = name_of (text_in p.name); kind = p.kind }

  unfoldable pub decode_page : PageRow → Page
  decode_page p =
      record {
        identifier = identifier_of (text_in p.identifier);
        categories = categories_in (map term_in p.forms);
        values = values_in (map term_in p.forms);
      }

-- The register that a dictionary describes.
unfoldable pub decode : Dictionary → Register
decode d = record { properties = map (decode_property d) d.properties; pages = map (decode_page d) d.pages }
