-- Laws of loops: tables written entry by entry, sums.
use Prim.Native.Nat.{ℕ, zero, suc, ◌+◌, ◌≤◌}
use mathlib.Core.Path.{◌≡◌, refl, ap, ◌∙◌}
use mathlib.Core.List.{List}
use native.Mathlib.Omega.{arith}
use native.Mathlib.Numerals.{add-one}
use lib.ListN.{length, set, length-set}
use Rattle.register_form_test.specs.Loops.{written, sum_to}

-- Tables.
module _ (at v : ℕ → ℕ) (t : List ℕ) where
  pub written_none : t ≡ written at v 0 t
  unfolding written
  written_none = refl

  pub written_more : (i x y z : ℕ) (u w : List ℕ) → w ≡ set u x y → u ≡ written at v i t → x ≡ z → z ≡ at i → y ≡ v i → w ≡ written at v (i + 1) t
  unfolding written
  written_more i x y z u w k e f g j = k ∙ rw (add-one, e, f, g, j)

  pub written_end : (i n m : ℕ) (u : List ℕ) → u ≡ written at v i t → i ≤ n → n ≤ i → n ≡ m → u ≡ written at v m t
  written_end i n m u e a b k = let p : i ≡ m = omega arith in e ∙ rw p

  pub length_written : (n : ℕ) → length (written at v n t) ≡ length t
  unfolding written
  length_written zero = refl
  length_written (suc n) = length-set (written at v n t) (at n) (v n) ∙ length_written n

  pub written_length : (n : ℕ) (u : List ℕ) → u ≡ written at v n t → length u ≡ length t
  written_length n u e = ap length e ∙ length_written n

-- Sums.
module _ (f : ℕ → ℕ) where
  pub sum_none : 0 ≡ sum_to 0 f
  unfolding sum_to
  sum_none = refl

  pub sum_more : (i s t : ℕ) → s ≡ sum_to i f → t ≡ f i → s + t ≡ sum_to (i + 1) f
  unfolding sum_to
  sum_more i s t e k = rw (add-one, e, k)

  pub sum_end : (i n m s : ℕ) → s ≡ sum_to i f → i ≤ n → n ≤ i → n ≡ m → s ≡ sum_to m f
  sum_end i n m s e a b k = let p : i ≡ m = omega arith in e ∙ rw p

pub ruleset loops = (written_none, written_more, written_end, written_length, sum_none, sum_more, sum_end)
