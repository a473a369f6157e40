-- Working definitions: the entries of a text as rows of a table, five numbers a row: a code, and the start and length of two
-- parts of the text.
use Rattle.std.specs.Prelude.{ℕ, ◌+◌, ◌-◌, ◌*◌, ◌%◌, ◌≤◌, ◌≡◌, cond, List, [], ◌∷◌, map, eqb, length, get_or, Option, Some, None}
use Rattle.std.proofs.lemmas.List.Edits.{sets}
use Rattle.text.specs.Bytes.{Bytes, part}
use Rattle.text.specs.Table.{tabulate}
use Rattle.values.specs.declared.Kind.{Kind}
use Rattle.values.specs.Values.{kind_code, kind_from}
use Rattle.language.specs.RegisterText.{Entry, entries}
use Rattle.register_text_entries.specs.Items.{entry_by}
use Rattle.register_text_entries.specs.declared.Tag.{Tag}
use Rattle.register_text_entries.specs.declared.Item.{Item}

-- The code of an entry: 0 a page, 1 a cat form, 2 a val form, 3 the end of a page, from 4 on a property of one of the kinds.
abbrev pub entry_code : Tag → Kind → ℕ
entry_code Tag.Page k = 0
entry_code Tag.Cat k = 1
entry_code Tag.Val k = 2
entry_code Tag.Close k = 3
entry_code Tag.Prop k = 4 + kind_code k

unfoldable pub tag_from : ℕ → Tag
tag_from c =
    cond (eqb c 0) Tag.Page (cond (eqb c 1) Tag.Cat (cond (eqb c 2) Tag.Val (cond (eqb c 3) Tag.Close Tag.Prop)))

abbrev pub kind_of_code : ℕ → Kind
kind_of_code c = kind_from ((c - 4) % 256)

-- An entry by its code.
unfoldable pub entry_from : ℕ → Bytes → Bytes → Entry
entry_from c a b = entry_by (tag_from c) (kind_of_code c) a b

-- The entry in row i.
unfoldable pub entry_at : Bytes → List ℕ → ℕ → Entry
entry_at s t i =
    entry_from (get_or t (5 * i) 0) (part s (get_or t (5 * i + 1) 0) (get_or t (5 * i + 2) 0)) (part s (get_or t (5 * i + 3) 0) (get_or t (5 * i + 4) 0))

-- The entries in the first n rows.
unfoldable pub entries_in : Bytes → List ℕ → ℕ → List Entry
entries_in s t n = tabulate n (entry_at s t)

-- The five numbers of an item, each in two bytes.
abbrev pub row : Item → List ℕ
row i =
    map (λ v. v % 65536) (entry_code i.tag i.kind ∷ i.first.start ∷ i.first.len ∷ i.second.start ∷ i.second.len ∷ [])

-- The table with an item in row n, as far as there is room.
unfoldable pub with_row : List ℕ → ℕ → Item → List ℕ
with_row t n i = sets t (5 * n) (row i)

-- What reading a whole text answers: how many entries it has.
abbrev pub rows_of : Option (List Entry) → Option ℕ
rows_of None = None
rows_of (Some l) = Some (length l)

-- The table holds the entries, where the text is short and there is room for them.
abbrev pub HoldsEntries : Bytes → List ℕ → Option (List Entry) → Type 0
HoldsEntries s t None = Unit {0}
HoldsEntries s t (Some l) = length s ≤ 65535 → 5 * length l ≤ length t → entries_in s t (length l) ≡ l

-- What reading a whole text does: t is the table as it was, u as it is then.
pub record Filled (s : Bytes) (t u : List ℕ) (r : Option ℕ) : Type 0 where
  pub is : r ≡ rows_of (entries s)
  pub rows : HoldsEntries s u (entries s)
  pub size : length u ≡ length t
