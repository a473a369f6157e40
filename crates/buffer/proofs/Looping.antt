-- Laws of the loops that write: what is still to be written where they stand gives the whole.
use Prim.Native.Nat.{ℕ, suc, ◌+◌, ◌-◌, ◌*◌, ◌≤◌, ◌<◌}
use mathlib.Core.Path.{◌≡◌, refl, sym, ap, ap₂, ◌∙◌}
use mathlib.Core.List.{List, [], ◌∷◌, ◌++◌, flat_map}
use mathlib.Core.Logic.{◌⊎◌, inl, inr}
use native.Mathlib.Omega.{arith}
use native.Mathlib.Numerals.{add-one}
use native.Mathlib.Nat.{add-zero, mul-zero, mul-suc}
use lib.ListN.{length, get_or, drop, set, drop_of_length-le}
use lib.Seq.{drop-cons}
use Rattle.text.specs.Bytes.{Bytes}
use Rattle.buffer.specs.Numbers.{zeros}
use Rattle.buffer.specs.Writing.{written}
use Rattle.buffer.proofs.Written.{written_past, written_then, written_none, length_written}

-- v written from a place on comes to v₀ written from a place on before.
pub record Writing (h₀ : Bytes) (at₀ : ℕ) (v₀ h : Bytes) (at : ℕ) (v : Bytes) : Type 0 where
  pub size : length h ≡ length h₀
  pub is : written h at v ≡ written h₀ at₀ v₀

module _ (h₀ : Bytes) (at₀ : ℕ) (v₀ : Bytes) where
  pub writing_none : (v : Bytes) → v ≡ v₀ → Writing h₀ at₀ v₀ h₀ at₀ v
  writing_none v e = record { size = refl; is = ap (written h₀ at₀) e }

  pub writing_more : (h : Bytes) (at : ℕ) (x v g u : Bytes) (to : ℕ) → u ≡ x ++ v → g ≡ written h at x → to ≡ at + length x → Writing h₀ at₀ v₀ h at u → Writing h₀ at₀ v₀ g to v
  writing_more h at x v g u to d e f w =
      record {
        size = ap length e ∙ length_written h at x ∙ w.size;
        is = ap₂ (λ (k : Bytes) (n : ℕ). written k n v) e f ∙ written_then x v h at ∙ ap (written h at) (sym d) ∙ w.is;
      }

  pub writing_done : (h : Bytes) (at : ℕ) (v : Bytes) → v ≡ [] → Writing h₀ at₀ v₀ h at v → h ≡ written h₀ at₀ v₀
  writing_done h at v e w = sym (ap (written h at) e ∙ written_none h at) ∙ w.is

  pub writing_past : (h : Bytes) (at : ℕ) (v : Bytes) → length h ≤ at → Writing h₀ at₀ v₀ h at v → h ≡ written h₀ at₀ v₀
  writing_past h at v l w = written_past v h at l ∙ w.is

-- A string, byte by byte.
module _ (h₀ : Bytes) (at : ℕ) (v : Bytes) where
  abbrev pub Bytewise : Bytes → ℕ → ℕ → Type 0
  Bytewise h i to = Writing h₀ at v h to (drop i v)

  pub bytes_none : Bytewise h₀ 0 at
  bytes_none = writing_none h₀ at v v refl

  module _ (h : Bytes) (i to : ℕ) (w : Writing h₀ at v h to (drop i v)) where
    pub bytes_more : i < length v → Bytewise (set h to (get_or v i 0)) (i + 1) (to + 1)
    unfolding written
    bytes_more l = rw (add-one i) (writing_more h₀ at v h to (get_or v i 0 ∷ []) (drop (suc i) v) (set h to (get_or v i 0)) (drop i v) (to + 1) (drop-cons v i 0 l) refl refl w)

    pub bytes_all : length v ≤ i → h ≡ written h₀ at v
    bytes_all l = writing_done h₀ at v h to (drop i v) (drop_of_length-le v l) w

-- The same, where the place is counted from the first.
abbrev pub Stored : Bytes → ℕ → Bytes → Bytes → ℕ → Type 0
Stored h₀ at v h i = Writing h₀ at v h (at + i) (drop i v)

module _ (h₀ : Bytes) (at : ℕ) (v : Bytes) where
  pub stored_none : Stored h₀ at v h₀ 0
  stored_none = rw (add-zero at) (bytes_none h₀ at v)

  pub stored_more : (h : Bytes) (i : ℕ) → Stored h₀ at v h i → i < length v → Stored h₀ at v (set h (at + i) (get_or v i 0)) (i + 1)
  stored_more h i w l = let e : at + (i + 1) ≡ at + i + 1 = omega arith in rw e (bytes_more h₀ at v h i (at + i) w l)

pub ruleset bytewise = (bytes_none, bytes_more, bytes_all, writing_past)

-- Zeros at the front.
module _ (h₀ : Bytes) (n : ℕ) where
  abbrev pub Clearing : Bytes → ℕ → Type 0
  Clearing h i = Writing h₀ 0 (zeros n) h i (zeros (n - i))

  pub clear_none : Clearing h₀ 0
  clear_none = writing_none h₀ 0 (zeros n) (zeros (n - 0)) (ap zeros (let e : n - 0 ≡ n = omega arith in e))

  module _ (h : Bytes) (i : ℕ) (w : Writing h₀ 0 (zeros n) h i (zeros (n - i))) where
    pub clear_more : (end : ℕ) → i < end → end ≤ n → Clearing (set h i 0) (i + 1)
    unfolding written zeros
    clear_more end b l =
        let e : n - i ≡ suc (n - (i + 1)) = omega arith in
        writing_more h₀ 0 (zeros n) h i (0 ∷ []) (zeros (n - (i + 1))) (set h i 0) (zeros (n - i)) (i + 1) (ap zeros e) refl refl w

    pub clear_all : (end : ℕ) → (length h₀ ≤ end) ⊎ (n ≤ end) → end ≤ i → h ≡ written h₀ 0 (zeros n)
    unfolding zeros
    clear_all end (inl l) m = writing_past h₀ 0 (zeros n) h i (zeros (n - i)) (omega (arith, w.size)) w
    clear_all end (inr l) m = writing_done h₀ 0 (zeros n) h i (zeros (n - i)) (ap zeros (let e : n - i ≡ 0 = omega arith in e)) w

pub ruleset clearing = (clear_none, clear_more, clear_all)

-- Rows of w bytes, one for each element of a list.
module _ {A : Type 0} (enc : A → Bytes) (w : ℕ) (none : A) (h₀ : Bytes) (base : ℕ) (l : List A) where
  abbrev pub Rowing : Bytes → ℕ → Type 0
  Rowing h i = Writing h₀ base (flat_map enc l) h (base + w * i) (flat_map enc (drop i l))

  pub rows_none : Rowing h₀ 0
  rows_none = rw (mul-zero w, add-zero base) (writing_none h₀ base (flat_map enc l) (flat_map enc l) refl)

  module _ (h : Bytes) (i : ℕ) (r : Rowing h i) where
    pub rows_more : (x : A) (g : Bytes) → i < length l → x ≡ get_or l i none → length (enc x) ≡ w → g ≡ written h (base + w * i) (enc x) → Rowing g (i + 1)
    unfolding flat_map
    rows_more x g b e s f =
        let next : base + w * (i + 1) ≡ base + w * i + length (enc x) = rw add-one (omega (arith, mul-suc w i)) in
        writing_more h₀ base (flat_map enc l) h (base + w * i) (enc x) (flat_map enc (drop (i + 1) l)) g (flat_map enc (drop i l)) (base + w * (i + 1)) (ap (flat_map enc) (drop-cons l i none b) ∙ rw (add-one, e)) f next r

    pub rows_all : length l ≤ i → h ≡ written h₀ base (flat_map enc l)
    unfolding flat_map
    rows_all b = writing_done h₀ base (flat_map enc l) h (base + w * i) (flat_map enc (drop i l)) (ap (flat_map enc) (drop_of_length-le l b)) r
