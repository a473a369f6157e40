-- Laws of rows: a region that holds records of one width, read and written by their numbers.
use Prim.Native.Nat.{ℕ, zero, suc, ◌+◌, ◌-◌, ◌*◌, ◌≤◌, ◌<◌}
use mathlib.Core.Path.{◌≡◌, refl, ap, sym, ◌∙◌}
use mathlib.Core.Bool.{true}
use mathlib.Core.List.{List, [], ◌∷◌, flat_map}
use native.Mathlib.Nat.{mul-le-mul_left, mul-zero, mul-suc, add_comm, le_refl}
use native.Mathlib.Omega.{arith}
use lib.ListN.{length, get_or, length-append}
use lib.Seq.{take_at}
use Rattle.text.specs.Bytes.{Bytes, part}
use Rattle.text.specs.Table.{tabulate}
use Rattle.buffer.specs.Numbers.{two_bytes, two_at, padded}
use Rattle.register_form.specs.Form.{number_bytes}
use Rattle.register_form.specs.Tests.{Small}
use Rattle.buffer.specs.Tests.{zeros_at}
use Rattle.buffer.proofs.Parts.{both, length_part, part_add, part_behind, flat_more}
use Rattle.buffer.proofs.Numbers.{two_there, two_here}
use Rattle.buffer.proofs.Regions.{region, part_region}

module _ {A : Type 0} (enc : A → Bytes) (w : ℕ) where
  -- records of a list, each w bytes long
  module _ (none : A) where
    pub length_rows : (l : List A) → ((i : ℕ) → i < length l → length (enc (get_or l i none)) ≡ w) → length (flat_map enc l) ≡ w * length l
    unfolding flat_map
    length_rows [] s = sym (mul-zero w)
    length_rows (a ∷ l) s = omega (arith, length-append (enc a) (flat_map enc l), s 0 (omega arith), length_rows l (λ i b. s (suc i) (omega arith)), mul-suc w (length l))

    row_of : (l : List A) → ((i : ℕ) → i < length l → length (enc (get_or l i none)) ≡ w) → (i : ℕ) → i < length l → part (flat_map enc l) (w * i) w ≡ enc (get_or l i none)
    unfolding flat_map
    row_of [] s i b = absurd (omega arith)
    row_of (a ∷ l) s zero b = rw mul-zero (take_at (enc a) (flat_map enc l) w (s 0 b))
    row_of (a ∷ l) s (suc i) b =
        rw (mul-suc, add_comm)
        (part_behind (enc a) (flat_map enc l) w (w * i) w (s 0 (omega arith)) ∙ row_of l (λ j c. s (suc j) (omega arith)) i (omega arith))

    -- row i of a region
    pub row_in : (h : Bytes) (base size : ℕ) (l : List A)
        → part h base size ≡ padded size (flat_map enc l)
        → ((i : ℕ) → i < length l → length (enc (get_or l i none)) ≡ w)
        → w * length l ≤ size
        → (i : ℕ)
        → i < length l
        → part h (base + w * i) w ≡ enc (get_or l i none)
    row_in h base size l e s b i k =
        part_region h base size (flat_map enc l) e (omega (arith, length_rows l s)) (w * i) w (omega (arith, length_rows l s, mul-le-mul_left w k, mul-suc w i)) ∙ row_of l s i k

  -- a region from its rows
  module _ (h : Bytes) (base : ℕ) (f : ℕ → A) where
    rows : (n : ℕ) → ((i : ℕ) → i < n → part h (base + w * i) w ≡ enc (f i)) → part h base (w * n) ≡ flat_map enc (tabulate n f)
    unfolding tabulate flat_map
    rows zero e = rw mul-zero
    rows (suc n) e = rw mul-suc (part_add h base (w * n) w ∙ both (rows n (λ i l. e i (omega arith))) (e n (le_refl _)) ∙ sym (flat_more enc n f))

    pub region_rows : (size n : ℕ) → ((i : ℕ) → i < n → part h (base + w * i) w ≡ enc (f i)) → w * n ≤ size → base + size ≤ length h → zeros_at h (base + w * n) (size - w * n) ≡ true → part h base size ≡ padded size (flat_map enc (tabulate n f))
    region_rows size n e b k t =
        let p : part h base (w * n) ≡ flat_map enc (tabulate n f) = rows n e in
        region h base size (w * n) (flat_map enc (tabulate n f)) (ap length (sym p) ∙ length_part h base (w * n) (omega arith)) b p k t

-- Numbers of two bytes.
pub length_numbers : (l : List ℕ) → length (number_bytes l) ≡ 2 * length l
unfolding number_bytes
length_numbers l = length_rows two_bytes 2 0 l (λ i b. refl)

pub number_in : (h : Bytes) (base size : ℕ) (l : List ℕ) → part h base size ≡ padded size (number_bytes l) → 2 * length l ≤ size → Small l → (i : ℕ) → i < length l → two_at h (base + 2 * i) ≡ get_or l i 0
unfolding number_bytes Small
number_in h base size l e b s i k = two_there h (base + 2 * i) (get_or l i 0) (s i k) (row_in two_bytes 2 0 h base size l e (λ j c. refl) b i k)

-- a region is the bytes of the numbers in it
pub region_numbers : (h : Bytes) (base size n : ℕ) → ((i : ℕ) → get_or h i 0 < 256) → 2 * n ≤ size → base + size ≤ length h → zeros_at h (base + 2 * n) (size - 2 * n) ≡ true → part h base size ≡ padded size (number_bytes (tabulate n (λ i. two_at h (base + 2 * i))))
unfolding number_bytes
region_numbers h base size n s b k t =
    region_rows two_bytes 2 h base (λ i. two_at h (base + 2 * i)) size n (λ i c. two_here h (base + 2 * i) (omega arith) s) b k t
