-- The held register: a dictionary in 63,628 bytes. docs/LAYOUT.md has the table.
use Rattle.std.specs.Prelude.{ℕ, suc, ◌+◌, ◌*◌, ◌-◌, Bool, cond, ◌&&◌, ltb, length, get_or, take, drop, Option, Some}
use mathlib.Core.List.{List, ◌∷◌, ◌++◌, map, flat_map}
use Rattle.text.specs.Bytes.{Bytes, part, same}
use Rattle.text.specs.Table.{tabulate}
use Rattle.values.specs.Values.{kind_code, kind_from}
use Rattle.language.specs.Answer.{Answer, refused, accepted, only_if}
use Rattle.language.specs.Register.{Register}
use Rattle.language.specs.Rules.{is_register}
use Rattle.buffer.specs.Numbers.{two_bytes, two_at, padded, starts_from}
use Rattle.register_form.specs.Dictionary.{PropertyRow, PageRow, Dictionary, decode}
use Rattle.register_form.specs.Encoding.{encode}

abbrev pub register_size : ℕ
register_size = 63628

abbrev pub forms_of : PageRow → List ℕ
forms_of p = p.forms

-- Byte strings one behind the other.
abbrev pub joined : List Bytes → Bytes
joined l = flat_map (λ t. t) l

-- What each region holds.
unfoldable pub count_bytes : Dictionary → Bytes
count_bytes d = two_bytes (length d.properties) ++ two_bytes (length d.pages) ++ two_bytes (length d.terms) ++ two_bytes (length d.texts)

unfoldable pub property_bytes : PropertyRow → Bytes
property_bytes p = kind_code p.kind ∷ two_bytes p.name

unfoldable pub number_bytes : List ℕ → Bytes
number_bytes l = flat_map two_bytes l

-- The bytes of a dictionary.
unfoldable pub bytes_of : Dictionary → Bytes
bytes_of d =
    count_bytes d
    ++ (padded 192 (flat_map property_bytes d.properties)
    ++ (padded 512 (number_bytes (map (λ p. p.identifier) d.pages))
    ++ (padded 514 (number_bytes (starts_from 0 (map forms_of d.pages)))
    ++ (padded 4096 (number_bytes (flat_map forms_of d.pages))
    ++ (padded 18432 (joined d.terms)
    ++ (padded 4738 (number_bytes (starts_from 0 d.texts))
    ++ padded 35136 (joined d.texts)))))))

-- The form of a register.
unfoldable pub form_of : Register → Bytes
form_of R = bytes_of (encode R)

-- The buffer b with the bytes of a held register at its front, or 8: "buffer shorter than a held register".
unfoldable pub placed : Bytes → Bytes → Answer Bytes
placed bytes b = cond (ltb (length b) register_size) (refused 8) (accepted (bytes ++ drop register_size b))

unfoldable pub stored : Register → Bytes → Answer Bytes
stored R b = placed (form_of R) b

-- What bytes hold, whatever they are.
module _ (h : Bytes) where
  -- How many properties, pages, terms and texts there are.
  abbrev pub property_count : ℕ
  property_count = two_at h 0

  abbrev pub page_count : ℕ
  page_count = two_at h 2

  abbrev pub term_count : ℕ
  term_count = two_at h 4

  abbrev pub text_count : ℕ
  text_count = two_at h 6

  -- The byte of property i's kind.
  abbrev pub kind_byte : ℕ → ℕ
  kind_byte i = get_or h (8 + 3 * i) 0

  unfoldable pub property_at : ℕ → PropertyRow
  property_at i = record { kind = kind_from (kind_byte i); name = two_at h (9 + 3 * i) }

  -- Where the forms of page i begin, among all forms.
  unfoldable pub form_start : ℕ → ℕ
  form_start i = two_at h (712 + 2 * i)

  unfoldable pub form_at : ℕ → ℕ
  form_at j = two_at h (1226 + 2 * j)

  unfoldable pub page_at : ℕ → PageRow
  page_at i =
      record {
        identifier = two_at h (200 + 2 * i);
        forms = tabulate (form_start (suc i) - form_start i) (λ j. form_at (form_start i + j));
      }

  unfoldable pub term_at : ℕ → Bytes
  term_at i = part h (5322 + 9 * i) 9

  -- Where text i begins, among the bytes of all texts.
  unfoldable pub text_start : ℕ → ℕ
  text_start i = two_at h (23754 + 2 * i)

  unfoldable pub text_at : ℕ → Bytes
  text_at i = part h (28492 + text_start i) (text_start (suc i) - text_start i)

  unfoldable pub dictionary_in : Dictionary
  dictionary_in =
      record {
        properties = tabulate property_count property_at;
        pages = tabulate page_count page_at;
        terms = tabulate term_count term_at;
        texts = tabulate text_count text_at;
      }

  -- The register that bytes describe, whatever they are.
  unfoldable pub register_in : Register
  register_in = decode dictionary_in

-- The bytes are the form of the register that they describe, and it is one.
unfoldable pub is_form : Bytes → Bool
is_form h = is_register (register_in h) && same h (form_of (register_in h))

-- "A held input is its first bytes of that size, and a shorter one is a form of nothing": the register whose form they are.
unfoldable pub held_register : Bytes → Option Register
held_register h = only_if (is_form (take register_size h)) (Some (register_in (take register_size h)))
