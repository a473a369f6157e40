-- Laws of the table: codes, the rows that a store leaves, the entries in the first rows.
use Prim.Native.Nat.{ℕ, zero, suc, ◌+◌, ◌-◌, ◌*◌, ◌/◌, ◌%◌, ◌≤◌, ◌<◌}
use mathlib.Core.Path.{◌≡◌, refl, sym, ◌∙◌}
use mathlib.Core.List.{List, [], ◌∷◌, ◌++◌}
use native.Mathlib.Omega.{arith}
use native.Mathlib.Nat.{add-zero, add-suc, suc-add}
use native.Mathlib.Numerals.{add-one}
use lib.ListN.{length, get_or, set, length-set, get_or-eq_default}
use lib.Seq.{sets, set_out, length-sets, get_or-set_same, get_or-set_other}
use borrow.Author.Tests.{ne_eqb}
use Rattle.text.specs.Bytes.{Bytes, part}
use Rattle.text.specs.Parts.{part_of, Within}
use Rattle.text.specs.Table.{tabulate}
use Rattle.text.proofs.Tables.{length_tabulate, get_d_tabulate, tabulate_ext}
use Rattle.values.specs.declared.Kind.{Kind}
use Rattle.values.specs.Values.{kind_code, kind_from}
use Rattle.values.proofs.EachKind.{code_below, kind_coded}
use Rattle.language.specs.RegisterText.{Entry}
use Rattle.register_text_entries.specs.declared.Tag.{Tag}
use Rattle.register_text_entries.specs.declared.Item.{Item}
use Rattle.register_text_entries.specs.Items.{entry_by, entry_in}
use Rattle.register_text_entries.specs.Table.{entry_code, tag_from, kind_of_code, entry_from, entry_at, entries_in, row, with_row}

-- Codes.
module _ (c : ℕ) where
  pub tag_page : c ≡ 0 → Tag.Page ≡ tag_from c
  unfolding tag_from
  tag_page h = rw h

  pub tag_cat : c ≡ 1 → Tag.Cat ≡ tag_from c
  unfolding tag_from
  tag_cat h = rw h

  pub tag_val : c ≡ 2 → Tag.Val ≡ tag_from c
  unfolding tag_from
  tag_val h = rw h

  pub tag_close : c ≡ 3 → Tag.Close ≡ tag_from c
  unfolding tag_from
  tag_close h = rw h

  pub tag_prop : (c ≡ 0 → ⊥) → (c ≡ 1 → ⊥) → (c ≡ 2 → ⊥) → (c ≡ 3 → ⊥) → Tag.Prop ≡ tag_from c
  unfolding tag_from
  tag_prop w x y z = rw (ne_eqb c 0 w, ne_eqb c 1 x, ne_eqb c 2 y, ne_eqb c 3 z)

  pub kind_none : (r : Kind) → c < 4 → r ≡ kind_from 0 → r ≡ kind_of_code c
  kind_none r h e = let n : (c - 4) % 256 ≡ 0 = omega arith in rw n e

pub code_prop : (t : Tag) (k : Kind) (b c : ℕ) → t ≡ Tag.Prop → b ≡ kind_code k → c ≡ b → 4 + c ≡ entry_code t k
code_prop t k b c e f g = rw (e, g, f)

pub ruleset codes = (code_prop, tag_page, tag_cat, tag_val, tag_close, tag_prop, kind_none)

pub code_back : (t : Tag) (k : Kind) (a b : Bytes) → entry_from (entry_code t k % 65536) a b ≡ entry_by t k a b
unfolding entry_from tag_from
code_back Tag.Page k a b = refl
code_back Tag.Cat k a b = refl
code_back Tag.Val k a b = refl
code_back Tag.Close k a b = refl
code_back Tag.Prop k a b =
    let l = code_below k in
    let c = (4 + kind_code k) % 65536 in
    let e : (c - 4) % 256 ≡ kind_code k = omega arith in
    rw (← tag_prop c (omega arith) (omega arith) (omega arith) (omega arith), e, kind_coded k)

-- What a run of stores leaves: past the end nothing, below it what was there, in it what was stored.
module _ {A : Type 0} where
  pub sets_out : (vs l : List A) (i : ℕ) → length l ≤ i → sets l i vs ≡ l
  sets_out [] l i h = refl
  sets_out (a ∷ vs) l i h = sets_out vs (set l i a) (suc i) (omega (arith, length-set l i a)) ∙ set_out l i a h

  pub get_d_sets_below : (vs l : List A) (i j : ℕ) (d : A) → j < i → get_or (sets l i vs) j d ≡ get_or l j d
  get_d_sets_below [] l i j d h = refl
  get_d_sets_below (a ∷ vs) l i j d h = get_d_sets_below vs (set l i a) (suc i) j d (omega arith) ∙ get_or-set_other l i j a d (omega arith)

  pub get_d_sets : (vs l : List A) (i k : ℕ) (d : A) → i + length vs ≤ length l → k < length vs → get_or (sets l i vs) (i + k) d ≡ get_or vs k d
  get_d_sets [] l i k d h m = absurd (omega arith)
  get_d_sets (a ∷ vs) l i zero d h m =
      rw (add-zero i) (get_d_sets_below vs (set l i a) (suc i) i d (omega arith) ∙ get_or-set_same l i a d (omega arith))
  get_d_sets (a ∷ vs) l i (suc k) d h m =
      rw (add-suc i k, ← suc-add i k) (get_d_sets vs (set l i a) (suc i) k d (omega (arith, length-set l i a)) (omega arith))

-- A row that is read.
pub row_past : (t : List ℕ) (i : ℕ) (s : Bytes) → length t / 5 < i → entry_from 0 (part s 0 0) (part s 0 0) ≡ entry_at s t i
unfolding entry_at
row_past t i s h =
    rw (
      none (5 * i) (omega arith),
      none (5 * i + 1) (omega arith),
      none (5 * i + 2) (omega arith),
      none (5 * i + 3) (omega arith),
      none (5 * i + 4) (omega arith),
    )
  where
    none : (j : ℕ) → length t ≤ j → get_or t j 0 ≡ 0
    none j l = get_or-eq_default t 0 l

-- A row that is written.
module _ (t : List ℕ) (n : ℕ) (x : Item) where
  pub row_size : length (with_row t n x) ≡ length t
  unfolding with_row
  row_size = length-sets t (5 * n) (row x)

  pub row_out : length t / 5 < n → t ≡ with_row t n x
  unfolding with_row
  row_out h = sym (sets_out (row x) t (5 * n) (omega arith))

  module _ (s : Bytes) where
    pub row_below : (i : ℕ) → i < n → entry_at s (with_row t n x) i ≡ entry_at s t i
    unfolding entry_at with_row
    row_below i h =
        rw (
          same (5 * i) (omega arith),
          same (5 * i + 1) (omega arith),
          same (5 * i + 2) (omega arith),
          same (5 * i + 3) (omega arith),
          same (5 * i + 4) (omega arith),
        )
      where
        same : (j : ℕ) → j < 5 * n → get_or (sets t (5 * n) (row x)) j 0 ≡ get_or t j 0
        same j l = get_d_sets_below (row x) t (5 * n) j 0 l

    module _ (room : 5 * n + 5 ≤ length t) (short : length s ≤ 65535) (a : Within s x.first) (b : Within s x.second) where
      there : (k : ℕ) → k < 5 → get_or (sets t (5 * n) (row x)) (5 * n + k) 0 ≡ get_or (row x) k 0
      there k l = get_d_sets (row x) t (5 * n) k 0 (omega arith) (omega arith)

      kept : (v : ℕ) → v ≤ length s → v % 65536 ≡ v
      kept v l = omega arith

      pub row_there : entry_at s (with_row t n x) n ≡ entry_in s x
      unfolding entry_at with_row
      row_there =
          rw (
            rw add-zero at (there 0 (omega arith)),
            there 1 (omega arith),
            there 2 (omega arith),
            there 3 (omega arith),
            there 4 (omega arith),
            kept x.first.start (omega arith),
            kept x.first.len (omega arith),
            kept x.second.start (omega arith),
            kept x.second.len (omega arith),
          ) (code_back x.tag x.kind (part_of s x.first) (part_of s x.second))

      pub rows_more : entries_in s (with_row t n x) (n + 1) ≡ entries_in s t n ++ (entry_in s x ∷ [])
      unfolding entries_in tabulate
      rows_more = rw (add-one, tabulate_ext n (entry_at s (with_row t n x)) (entry_at s t) row_below, row_there)

-- The entries in the first rows.
module _ (s : Bytes) (t : List ℕ) (n : ℕ) where
  pub rows_length : length (entries_in s t n) ≡ n
  unfolding entries_in
  rows_length = length_tabulate n (entry_at s t)

  pub rows_at : (i : ℕ) (d : Entry) → i < n → get_or (entries_in s t n) i d ≡ entry_at s t i
  unfolding entries_in
  rows_at i d h = get_d_tabulate n (entry_at s t) d i h

  pub rows_last : entries_in s t (n + 1) ≡ entries_in s t n ++ (entry_at s t n ∷ [])
  unfolding entries_in tabulate
  rows_last = rw add-one
