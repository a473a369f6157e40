-- Laws of tests of all numbers below one, in loops.
use Prim.Native.Nat.{ℕ, zero, suc, ◌+◌, ◌-◌, ◌≤◌, ◌<◌}
use mathlib.Core.Path.{◌≡◌, refl, ap, sym, ◌∙◌}
use mathlib.Core.Bool.{Bool, true, false, ◌&&◌}
use native.Mathlib.Omega.{arith}
use native.Mathlib.Nat.{le_refl}
use native.Mathlib.Numerals.{add-one}
use lib.Dec.{eqb}
use lib.ListN.{length, get_or, drop, length-take, get_or-eq_default}
use borrow.Author.Tests.{eq-eqb}
use Rattle.text.specs.Bytes.{Bytes, part}
use Rattle.buffer.specs.Tests.{all_to, zeros_at}
use Rattle.buffer.proofs.Parts.{get_d_part}

module _ (f : ℕ → Bool) where
  pub all_none : true ≡ all_to 0 f
  unfolding all_to
  all_none = refl

  pub all_more : (i : ℕ) (ok t : Bool) → ok ≡ all_to i f → t ≡ f i → (ok && t) ≡ all_to (i + 1) f
  unfolding all_to
  all_more i ok t e k = rw (add-one, e, k)

  -- where a loop ends
  pub all_end : (i n : ℕ) (ok : Bool) → ok ≡ all_to i f → i ≤ n → n ≤ i → ok ≡ all_to n f
  all_end i n ok e a b = let m : i ≡ n = omega arith in e ∙ rw m

  pub all_count : (i n m : ℕ) (ok : Bool) → ok ≡ all_to i f → i ≤ n → n ≤ i → n ≡ m → ok ≡ all_to m f
  all_count i n m ok e a b k = all_end i n ok e a b ∙ rw k

pub all_ext : (n : ℕ) (f g : ℕ → Bool) → ((i : ℕ) → i < n → f i ≡ g i) → all_to n f ≡ all_to n g
unfolding all_to
all_ext zero f g h = refl
all_ext (suc n) f g h = rw (all_ext n f g (λ i l. h i (omega arith)), h n (le_refl _))

pub and_true : (b : Bool) → (b && true) ≡ b
and_true true = refl
and_true false = refl

-- what holds from k on need not be tested there
pub all_rest : (f : ℕ → Bool) (k n : ℕ) → k ≤ n → ((i : ℕ) → k ≤ i → f i ≡ true) → all_to k f ≡ all_to n f
unfolding all_to
all_rest f k n l h = go (n - k) n (omega arith)
  where
    go : (d n : ℕ) → n ≡ k + d → all_to k f ≡ all_to n f
    go zero n e = let m : k ≡ n = omega arith in rw m
    go (suc d) zero e = absurd (omega arith)
    go (suc d) (suc n) e = rw (h n (omega arith)) (go d n (omega arith) ∙ sym (and_true (all_to n f)))

-- zeros in a part
module _ (h : Bytes) where
  pub zeros_cut : (from n i : ℕ) (s : Bytes) (ok : Bool) → s ≡ part h from n → ok ≡ all_to i (λ j. eqb (get_or s j 0) 0) → i ≤ length s → length s ≤ i → ok ≡ zeros_at h from n
  unfolding zeros_at
  zeros_cut from n i s ok e f a b =
      all_end (λ j. eqb (get_or s j 0) 0) i (length s) ok f a b
      ∙ all_rest (λ j. eqb (get_or s j 0) 0) (length s) n (omega (arith, ap length e, length-take n (drop from h))) (λ j l. eq-eqb (get_or s j 0) 0 (get_or-eq_default s 0 l))
      ∙ all_ext n (λ j. eqb (get_or s j 0) 0) (λ j. eqb (get_or h (from + j) 0) 0) (λ j l. ap (λ (v : ℕ). eqb v 0) (ap (λ (r : Bytes). get_or r j 0) e ∙ get_d_part h from n j l))

pub ruleset tests = (all_none, all_more, all_end, all_count, zeros_cut)
