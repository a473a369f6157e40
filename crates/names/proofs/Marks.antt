-- The thirteen marks are those of the table.
use Prim.Native.Nat.{ℕ, zero, suc, ◌+◌, ◌-◌, ◌<◌}
use mathlib.Core.Path.{◌≡◌, refl, sym, ◌∙◌}
use mathlib.Core.Bool.{Bool, true, false, not, ◌&&◌, ◌||◌, false≢true, and-eq-true_iff}
use mathlib.Core.List.{List, [], ◌∷◌, Memᴰ}
use native.Mathlib.Decide.{ℕ_discrete}
use native.Mathlib.Omega.{arith}
use lib.Dec.{eqb}
use borrow.Author.Tests.{ne_eqb}
use Rattle.text.specs.Bytes.{any}
use Rattle.names.specs.Table.{Entry, table}
use Rattle.names.specs.Codes.{is_mark}
use Rattle.names.proofs.Entries.{ranges}
use Rattle.names.proofs.Reading.{mark_range}

abbrev all_below : ℕ → (ℕ → Bool) → Bool
all_below zero p = true
all_below (suc n) p = p n && all_below n p

below_at : (n : ℕ) (p : ℕ → Bool) → all_below n p ≡ true → (k : ℕ) → k < n → p k ≡ true
below_at zero p h k l = absurd (omega arith)
below_at (suc n) p h k l = go (ℕ_discrete k n) (below_at n p ((and-eq-true_iff (p n) (all_below n p)).0 h).1 k)
  where
    go : Dec (k ≡ n) → (k < n → p k ≡ true) → p k ≡ true
    go (yes e) ih = rw e ((and-eq-true_iff (p n) (all_below n p)).0 h).0
    go (no e) ih = ih (omega (arith, e))

any_none : (p : Entry → Bool) (t : List Entry) → ((e : Entry) → Memᴰ e t → p e ≡ false) → any p t ≡ false
unfolding any
any_none p [] h = refl
any_none p (e ∷ t) h = rw (h e (Memᴰ.head refl)) (any_none p t (λ f m. h f (Memᴰ.tail m)))

abbrev pub has_mark : ℕ → Entry → Bool
has_mark c e = eqb e.mark c

marked_table : all_below 41 (λ k. not (is_mark (768 + k)) || any (has_mark (768 + k)) table) ≡ true
unfolding any table is_mark
marked_table = refl

-- "the thirteen combining marks that occur in decompositions of U+00C0 to U+017F"
pub marks_are : (c : ℕ) → is_mark c ≡ any (has_mark c) table
marks_are c = go (is_mark c) refl
  where
    unmarked : is_mark c ≡ false → (e : Entry) → Memᴰ e table → has_mark c e ≡ false
    unmarked h e m = ne_eqb e.mark c (λ q. false≢true (sym h ∙ (rw q at (ranges e m).marks)))

    go : (b : Bool) → is_mark c ≡ b → b ≡ any (has_mark c) table
    go true h =
        let r = mark_range c h in
        let e : 768 + (c - 768) ≡ c = omega arith in
        sym (rw (e, h) at (below_at 41 (λ k. not (is_mark (768 + k)) || any (has_mark (768 + k)) table) marked_table (c - 768) (omega arith)))
    go false h = sym (any_none (has_mark c) table (unmarked h))
