-- Laws of regions: a part of a buffer that holds a list and zeros behind it.
use Prim.Native.Nat.{ℕ, zero, suc, ◌+◌, ◌-◌, ◌*◌, ◌≤◌, ◌<◌}
use mathlib.Core.Path.{◌≡◌, refl, ap, ap₂, sym, ◌∙◌}
use mathlib.Core.Bool.{Bool, true, and-eq-true_iff}
use native.Mathlib.Nat.{le_refl}
use native.Mathlib.Decide.{ℕ_discrete}
use native.Mathlib.Omega.{arith}
use lib.Dec.{eqb}
use lib.ListN.{length, get_or, take, length-append, length-replicate, get_or-replicate}
use lib.Seq.{drop_at, take_all, ext_get_or}
use borrow.Author.Tests.{eqb-true, eq-eqb}
use Rattle.text.specs.Bytes.{Bytes, part}
use Rattle.buffer.specs.Numbers.{zeros, padded}
use Rattle.buffer.specs.Tests.{all_to, zeros_at}
use Rattle.buffer.proofs.Parts.{both, length_part, get_d_part, part_add, part_part, part_before}

-- Tests of all numbers below one.
pub all_to_lem : (n : ℕ) (f : ℕ → Bool) → all_to n f ≡ true → (i : ℕ) → i < n → f i ≡ true
unfolding all_to
all_to_lem zero f h i l = absurd (omega arith)
all_to_lem (suc n) f h i l = go (ℕ_discrete i n) (all_to_lem n f ((and-eq-true_iff (all_to n f) (f n)).0 h).0 i)
  where
    go : Dec (i ≡ n) → (i < n → f i ≡ true) → f i ≡ true
    go (yes e) k = rw e ((and-eq-true_iff (all_to n f) (f n)).0 h).1
    go (no e) k = k (omega (arith, e))

pub to_all : (n : ℕ) (f : ℕ → Bool) → ((i : ℕ) → i < n → f i ≡ true) → all_to n f ≡ true
unfolding all_to
to_all zero f h = refl
to_all (suc n) f h = rw (to_all n f (λ i l. h i (omega arith)), h n (le_refl _))

-- Zeros.
pub length_zeros : (n : ℕ) → length (zeros n) ≡ n
unfolding zeros
length_zeros n = length-replicate n 0

get_d_zeros : (n i : ℕ) → i < n → get_or (zeros n) i 0 ≡ 0
unfolding zeros
get_d_zeros n i l = get_or-replicate n i 0 0 l

pub zeros_there : (h : Bytes) (from n : ℕ) → from + n ≤ length h → zeros_at h from n ≡ true → part h from n ≡ zeros n
unfolding zeros_at
zeros_there h from n b t =
    ext_get_or 0 (part h from n) (zeros n) (length_part h from n b ∙ sym (length_zeros n))
    (λ i l.
    let k : i < n = omega (arith, length_part h from n b) in
    get_d_part h from n i k ∙ eqb-true (get_or h (from + i) 0) 0 (all_to_lem n (λ j. eqb (get_or h (from + j) 0) 0) t i k) ∙ sym (get_d_zeros n i k))

pub zeros_tested : (h : Bytes) (from n : ℕ) → part h from n ≡ zeros n → zeros_at h from n ≡ true
unfolding zeros_at
zeros_tested h from n e =
    to_all n (λ j. eqb (get_or h (from + j) 0) 0)
    (λ i l. eq-eqb (get_or h (from + i) 0) 0 (sym (get_d_part h from n i l) ∙ ap (λ (r : Bytes). get_or r i 0) e ∙ get_d_zeros n i l))

-- behind a table of n numbers and one more
pub zeros_one_more : (h : Bytes) (base size n : ℕ) → zeros_at h (base + 2 * suc n) (size - 2 * suc n) ≡ zeros_at h (base + 2 + 2 * n) (size - 2 - 2 * n)
zeros_one_more h base size n =
    let from : base + 2 * suc n ≡ base + 2 + 2 * n = omega arith in
    let room : size - 2 * suc n ≡ size - 2 - 2 * n = omega arith in
    ap₂ (zeros_at h) from room

-- Regions.
pub length_padded : (size : ℕ) (l : Bytes) → length l ≤ size → length (padded size l) ≡ size
unfolding padded
length_padded size l h = omega (arith, length-append l (zeros (size - length l)), length_zeros (size - length l))

-- a region from what it holds and what is behind that
pub region : (h : Bytes) (base size n : ℕ) (l : Bytes) → length l ≡ n → n ≤ size → part h base n ≡ l → base + size ≤ length h → zeros_at h (base + n) (size - n) ≡ true → part h base size ≡ padded size l
unfolding padded
region h base size n l e b p k t =
    let sum : size ≡ n + (size - n) = omega arith in
    ap (part h base) sum ∙ part_add h base n (size - n) ∙ both p (zeros_there h (base + n) (size - n) (omega arith) t ∙ rw e)

module _ (h : Bytes) (base size : ℕ) (l : Bytes) (e : part h base size ≡ padded size l) (b : length l ≤ size) where
  -- a part of what the region holds
  pub part_region : (at n : ℕ) → at + n ≤ length l → part h (base + at) n ≡ part l at n
  unfolding padded
  part_region at n k =
      sym (part_part h base size at n (omega arith))
      ∙ ap (λ (r : Bytes). part r at n) e
      ∙ part_before l (zeros (size - length l)) at n k

  -- what is behind it
  pub zeros_region : (n : ℕ) → length l ≡ n → zeros_at h (base + n) (size - n) ≡ true
  unfolding padded
  zeros_region n k =
      zeros_tested h (base + n) (size - n)
      (sym (part_part h base size n (size - n) (omega arith))
      ∙ ap (λ (r : Bytes). part r n (size - n)) e
      ∙ ap (take (size - n)) (drop_at l (zeros (size - length l)) n k)
      ∙ rw k (take_all (size - n) (zeros (size - n)) (omega (arith, length_zeros (size - n)))))
