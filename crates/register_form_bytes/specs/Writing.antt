-- Working definitions: the rows that the regions of a held register get.
use Rattle.std.specs.Prelude.{ℕ, ◌+◌, get_or}
use mathlib.Core.List.{List, [], ◌∷◌, ◌++◌, map, flat_map}
use Rattle.text.specs.Bytes.{Bytes}
use Rattle.text.specs.Table.{tabulate}
use Rattle.values.specs.Values.{kind_from}
use Rattle.buffer.specs.Numbers.{two_bytes, starts_from}
use Rattle.buffer.specs.Writing.{written}
use Rattle.register_form.specs.Dictionary.{PropertyRow, Dictionary}
use Rattle.register_form.specs.Form.{forms_of, joined, count_bytes, property_bytes, number_bytes}

-- The property that a kind's byte and a text's number tell.
abbrev pub row_of : ℕ → ℕ → PropertyRow
row_of kind name = record { kind = kind_from kind; name = name }

-- The numbers that a table has at the places that the first n of picks name.
unfoldable pub picked : List ℕ → List ℕ → ℕ → List ℕ
picked table picks n = tabulate n (λ i. get_or table (get_or picks i 0) 0)

-- The first n numbers of a table.
unfoldable pub first_of : List ℕ → ℕ → List ℕ
first_of table n = tabulate n (λ i. get_or table i 0)

-- The first n properties, by the bytes of their kinds and the items that are their names.
unfoldable pub rows_of : List ℕ → List ℕ → List ℕ → ℕ → List PropertyRow
rows_of kinds numbers names n = tabulate n (λ p. row_of (get_or kinds p 0) (get_or numbers (get_or names p 0) 0))

-- Four counts.
abbrev pub four_bytes : ℕ → ℕ → ℕ → ℕ → Bytes
four_bytes a b c d = two_bytes a ++ two_bytes b ++ two_bytes c ++ two_bytes d

-- A region: how much room it has, and the bytes that it gets.
pub record Region : Type 0 where
  pub size : ℕ
  pub bytes : Bytes

-- Regions written one behind the other, each from where it begins.
unfoldable pub put_regions : ℕ → List Region → Bytes → Bytes
put_regions at [] h = h
put_regions at (r ∷ l) h = put_regions (at + r.size) l (written h at r.bytes)

-- The regions of a dictionary.
abbrev pub regions_of : Dictionary → List Region
regions_of d =
    record { size = 8; bytes = count_bytes d }
    ∷ record { size = 192; bytes = flat_map property_bytes d.properties }
    ∷ record { size = 512; bytes = number_bytes (map (λ p. p.identifier) d.pages) }
    ∷ record { size = 514; bytes = number_bytes (starts_from 0 (map forms_of d.pages)) }
    ∷ record { size = 4096; bytes = number_bytes (flat_map forms_of d.pages) }
    ∷ record { size = 18432; bytes = joined d.terms }
    ∷ record { size = 4738; bytes = number_bytes (starts_from 0 d.texts) }
    ∷ record { size = 35136; bytes = joined d.texts }
    ∷ []
