-- Where the entry of a letter and a mark stands: the table's rule at every entry, by one test.
use Rattle.std.specs.Prelude.{Option, Some, None}
use Prim.Native.Nat.{ℕ}
use mathlib.Core.Path.{◌≡◌, refl, sym, ap, ◌∙◌}
use mathlib.Core.Bool.{Bool, true, false, ◌&&◌, false≢true, and-eq-true_iff}
use mathlib.Core.List.{List}
use native.Mathlib.Omega.{arith}
use lib.Dec.{eqb, ltb}
use lib.ListN.{length, get_or, get_or-map, get_or-eq_default}
use borrow.Author.Tests.{eqb-true, ltb-true, ltb-false, eq-eqb}
use Rattle.text.specs.Bytes.{all}
use Rattle.text.proofs.Tables.{get_d_tabulate}
use Rattle.names.specs.Table.{Entry, entry, table, composition}
use Rattle.names.specs.Steps.{IsTable, letters, marks, composed_letters, slot, place, places, letter_or0, composed_letter}
use Rattle.names.proofs.Entries.{all_at, composes, composition_is, at_place}

-- What the table has at a place, zeros behind its end.
abbrev at : ℕ → Entry
at i = get_or table i (entry 0 0 0)

-- The entry stands where its number says.
abbrev placed : Entry → Bool
placed e = eqb (at (place (slot e.letter e.mark) table)).letter e.letter && eqb (at (place (slot e.letter e.mark) table)).mark e.mark && eqb (at (place (slot e.letter e.mark) table)).composed e.composed

placed_table : all placed table ≡ true
unfolding all table place
placed_table = refl

module _ (l m i x y : ℕ) (u : x ≡ l) (v : y ≡ m) (p : i ≡ get_or places (slot x y) 0) where
  place_is : i ≡ place (slot l m) table
  unfolding places
  place_is = (rw (u, v) at p) ∙ get_d_tabulate 644 (λ k. place k table) 0 (slot l m) (omega arith)

  -- An entry of this letter and mark stands there.
  entry_there : (e : Entry) → composition l m ≡ Some e → ((at i).letter ≡ l) × ((at i).mark ≡ m) × ((at i).composed ≡ e.composed)
  entry_there e h =
      let g = composition_is l m e h in
      let t = all_at placed table placed_table g.2 in
      let j = place (slot e.letter e.mark) table in
      let x = (and-eq-true_iff (eqb (at j).letter e.letter && eqb (at j).mark e.mark) (eqb (at j).composed e.composed)).0 t in
      let y = (and-eq-true_iff (eqb (at j).letter e.letter) (eqb (at j).mark e.mark)).0 x.0 in
      rw (place_is, ← g.0, ← g.1) (eqb-true (at j).letter e.letter y.0, eqb-true (at j).mark e.mark y.1, eqb-true (at j).composed e.composed x.1)

  module _ (a b : ℕ) (f : a ≡ get_or letters i 0) (g : b ≡ get_or marks i 0) where
    letter_is : a ≡ (at i).letter
    unfolding letters
    letter_is = f ∙ get_or-map (λ e. e.letter) table i (entry 0 0 0)

    mark_is : b ≡ (at i).mark
    unfolding marks
    mark_is = g ∙ get_or-map (λ e. e.mark) table i (entry 0 0 0)

    looked_missing : (eqb a l && eqb b m) ≡ false → 0 ≡ composed_letter l m
    unfolding composed_letter
    looked_missing t = go (composition l m) refl
      where
        go : (o : Option Entry) → composition l m ≡ o → 0 ≡ letter_or0 o
        go None h = refl
        go (Some e) h =
            let r = entry_there e h in
            absurd (false≢true (sym t ∙ rw (eq-eqb a l (letter_is ∙ r.0), eq-eqb b m (mark_is ∙ r.1))))

    looked_found : (c : ℕ) → (eqb a l && eqb b m) ≡ true → c ≡ get_or composed_letters i 0 → c ≡ composed_letter l m
    unfolding composed_letter composed_letters
    looked_found c t k = go (composition l m) refl
      where
        here : c ≡ (at i).composed
        here = k ∙ get_or-map (λ e. e.composed) table i (entry 0 0 0)

        pair : ((at i).letter ≡ l) × ((at i).mark ≡ m)
        pair =
            let x = (and-eq-true_iff (eqb a l) (eqb b m)).0 t in
            (sym letter_is ∙ eqb-true a l x.0, sym mark_is ∙ eqb-true b m x.1)

        none_there : (q : Bool) → ltb i (length table) ≡ q → composition l m ≡ None → c ≡ 0
        none_there true q h =
            let w : composition l m ≡ Some (at i) = rw (← pair.0, ← pair.1) (composes (at i) (at_place table i (entry 0 0 0) (ltb-true i (length table) q))) in
            let z : ◌≡◌ {A = ℕ} 0 1 = cc in
            absurd (omega arith)
        none_there false q h = here ∙ ap (λ (e : Entry). e.composed) (get_or-eq_default table (entry 0 0 0) (ltb-false i (length table) q))

        go : (o : Option Entry) → composition l m ≡ o → c ≡ letter_or0 o
        go None h = none_there (ltb i (length table)) refl h
        go (Some e) h = here ∙ (entry_there e h).2

-- In the table as it is lent.
module _ (ps ls ms cs : List ℕ) (t : IsTable ps ls ms cs) (l m i x y : ℕ) (u : x ≡ l) (v : y ≡ m) (p : i ≡ get_or ps (slot x y) 0) (a b : ℕ) (f : a ≡ get_or ls i 0) (g : b ≡ get_or ms i 0) where
  pub lent_missing : (eqb a l && eqb b m) ≡ false → 0 ≡ composed_letter l m
  lent_missing = looked_missing l m i x y u v (rw t.0 at p) a b (rw t.1 at f) (rw t.2 at g)

  pub lent_found : (c : ℕ) → (eqb a l && eqb b m) ≡ true → c ≡ get_or cs i 0 → c ≡ composed_letter l m
  lent_found c q k = looked_found l m i x y u v (rw t.0 at p) a b (rw t.1 at f) (rw t.2 at g) c q (rw t.3 at k)
