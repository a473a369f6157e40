-- Laws of zeros told block by block: bits put together are 0 where all are, and blocks stand one behind the other.
use Prim.Native.Nat.{ℕ, zero, suc, ◌+◌, ◌-◌, ◌≤◌}
use mathlib.Core.Path.{◌≡◌, refl, sym, ap, ◌∙◌}
use mathlib.Core.Bool.{Bool, true, false, ◌&&◌, and_assoc}
use native.Mathlib.Nat.{add-suc, add-zero, le_refl}
use native.Mathlib.Numerals.{add-one}
use native.Mathlib.Omega.{arith}
use lib.Bits.{bit_and, bit_or, or_add_and, and_le_l, and_le_r}
use lib.Dec.{eqb}
use lib.ListN.{length, get_or}
use borrow.Author.Tests.{eqb-true, eqb-false, eq-eqb, ne_eqb}
use Rattle.text.specs.Bytes.{Bytes, part}
use Rattle.buffer.specs.Tests.{all_to, zeros_at, zeros_to}
use Rattle.buffer.proofs.Testing.{and_true, zeros_cut}

-- Bits put together are 0 where both are.
or_zero : (a b : ℕ) → eqb (bit_or a b) 0 ≡ (eqb a 0 && eqb b 0)
or_zero a b = go (eqb a 0) (eqb b 0) refl refl
  where
    sum : bit_or a b + bit_and a b ≡ a + b
    sum = or_add_and a b

    go : (p q : Bool) → eqb a 0 ≡ p → eqb b 0 ≡ q → eqb (bit_or a b) 0 ≡ (p && q)
    go true true e f = eq-eqb (bit_or a b) 0 (omega (arith, eqb-true a 0 e, eqb-true b 0 f, sum))
    go true false e f = ne_eqb (bit_or a b) 0 (λ z. eqb-false b 0 f (omega (arith, sum, and_le_l a b)))
    go false q e f = ne_eqb (bit_or a b) 0 (λ z. eqb-false a 0 e (omega (arith, sum, and_le_r a b)))

pub all_add : (f : ℕ → Bool) (a b : ℕ) → all_to (a + b) f ≡ (all_to a f && all_to b (λ j. f (a + j)))
unfolding all_to
all_add f a zero = rw (add-zero a) (sym (and_true (all_to a f)))
all_add f a (suc b) = rw (add-suc a b, all_add f a b) (and_assoc (all_to a f) (all_to b (λ j. f (a + j))) (f (a + b)))

-- The loop over the bytes of a block.
module _ (s : Bytes) where
  pub bits_none : eqb 0 0 ≡ zeros_to s 0
  unfolding zeros_to all_to
  bits_none = refl

  pub bits_more : (i bits : ℕ) → eqb bits 0 ≡ zeros_to s i → eqb (bit_or bits (get_or s i 0)) 0 ≡ zeros_to s (i + 1)
  unfolding zeros_to all_to
  bits_more i bits e = or_zero bits (get_or s i 0) ∙ rw (add-one i, e)

  pub bits_end : (i bits : ℕ) → eqb bits 0 ≡ zeros_to s i → i ≤ length s → length s ≤ i → eqb bits 0 ≡ zeros_to s (length s)
  bits_end i bits e a b = let m : i ≡ length s = omega arith in e ∙ rw m

-- The loop over blocks of a part: one more behind those that are 0.
module _ (h : Bytes) (from n : ℕ) (s : Bytes) (e : s ≡ part h from n) where
  told : (r : Bool) → r ≡ zeros_to s (length s) → r ≡ zeros_at h from n
  unfolding zeros_to
  told r f = zeros_cut h from n (length s) s r e f (le_refl (length s)) (le_refl (length s))

  module _ (i m : ℕ) (p : Bytes) (r : Bool) (f : p ≡ part s i m) (g : r ≡ zeros_to p (length p)) (before : zeros_to s i ≡ true) where
    block : r ≡ zeros_to s (i + m)
    unfolding zeros_to zeros_at
    block =
        zeros_cut s i m (length p) p r f g (le_refl (length p)) (le_refl (length p))
        ∙ ap (λ (b : Bool). b && zeros_at s i m) (sym before)
        ∙ sym (all_add (λ j. eqb (get_or s j 0) 0) i m)

    pub block_zero : r ≡ true → zeros_to s (i + m) ≡ true
    block_zero z = sym block ∙ z

    pub block_other : r ≡ false → m ≤ length s - i → i ≤ length s → false ≡ zeros_at h from n
    unfolding zeros_to
    block_other z l k =
        let j : length s ≡ (i + m) + (length s - (i + m)) = omega arith in
        told false (sym (ap (zeros_to s) j ∙ all_add (λ j. eqb (get_or s j 0) 0) (i + m) (length s - (i + m)) ∙ rw (sym block ∙ z)))

  pub block_last : (i : ℕ) (p : Bytes) (r : Bool) → p ≡ part s i (length s - i) → r ≡ zeros_to p (length p) → zeros_to s i ≡ true → i ≤ length s → r ≡ zeros_at h from n
  block_last i p r f g before k =
      let j : i + (length s - i) ≡ length s = omega arith in
      told r (block i (length s - i) p r f g before ∙ ap (zeros_to s) j)

pub zeros_none : (s : Bytes) → zeros_to s 0 ≡ true
unfolding zeros_to all_to
zeros_none s = refl
