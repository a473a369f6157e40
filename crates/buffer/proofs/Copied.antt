-- Laws of what the library copies or fills: as many bytes as there is room for stand for all.
use Prim.Native.Nat.{ℕ, ◌+◌, ◌-◌, ◌≤◌, min}
use mathlib.Core.Path.{◌≡◌, refl, sym, ap, ◌∙◌}
use mathlib.Core.Bool.{Bool, true, false}
use mathlib.Core.List.{◌++◌}
use mathlib.Core.Logic.{◌⊎◌, inl, inr}
use native.Mathlib.Omega.{arith}
use lib.Dec.{leb}
use lib.ListN.{length, take, drop, replicate, take-append-drop, length-replicate}
use lib.Seq.{sets-eq, take_all, length-take-le, drop-drop}
use borrow.Author.Tests.{leb-true, leb-false}
use borrow.Rule.Slice.PartMut.{put_mid}
use Rattle.std.proofs.Math.Nat.{min-eq_left, min-eq_right, sub-zero}
use Rattle.std.proofs.lemmas.List.{take-replicate, append_assoc}
use Rattle.text.specs.Bytes.{Bytes}
use Rattle.buffer.specs.Numbers.{zeros}
use Rattle.buffer.specs.Writing.{written}
use Rattle.buffer.proofs.Written.{written_past, written_then, length_written}

module _ (h v : Bytes) (at n : ℕ) (l : at ≤ length h) (e : n ≡ min (length v) (length h - at)) where
  sized : (n ≤ length v) × (at + n ≤ length h)
  sized = go (leb (length v) (length h - at)) refl
    where
      go : (b : Bool) → leb (length v) (length h - at) ≡ b → (n ≤ length v) × (at + n ≤ length h)
      go true f = let k = leb-true _ _ f in let m = e ∙ min-eq_left k in (omega arith, omega arith)
      go false f = let k = leb-false _ _ f in let m = e ∙ min-eq_right (omega arith) in (omega arith, omega arith)

  -- Written by its first bytes, it is written.
  pub written_cut : written h at (take n v) ≡ written h at v
  written_cut = go (leb (length v) (length h - at)) refl
    where
      go : (b : Bool) → leb (length v) (length h - at) ≡ b → written h at (take n v) ≡ written h at v
      go true f = let m : n ≡ length v = e ∙ min-eq_left (leb-true _ _ f) in ap (written h at) (take_all n v (omega arith))
      go false f =
          let k = leb-false _ _ f in
          let m : n ≡ length h - at = e ∙ min-eq_right (omega arith) in
          let j : length (take n v) ≡ n = length-take-le n v sized.0 in
          written_past (drop n v) (written h at (take n v)) (at + length (take n v)) (omega (arith, length_written h at (take n v)))
          ∙ written_then (take n v) (drop n v) h at
          ∙ ap (written h at) (take-append-drop n v)

  pub placed : (x : Bytes) (k : ℕ) → x ≡ take n v → k ≡ n → put_mid at k h x ≡ written h at v
  unfolding written
  placed x k f g =
      rw (f, g)
      (let j : length (take n v) ≡ n = length-take-le n v sized.0 in
      rw (drop-drop n at h)
      (ap (λ m. take at h ++ (take n v ++ drop (at + m) h)) (sym j)
      ∙ sym (append_assoc (take at h) (take n v) (drop (at + length (take n v)) h))
      ∙ sym (sets-eq (take n v) h at (omega (arith, j, sized.1)))
      ∙ written_cut))

-- Zeros at the front.
pub zeros_placed : (h x : Bytes) (n m : ℕ) → m ≡ min n (length h) → x ≡ replicate (length (take m h)) 0 → x ++ drop m h ≡ written h 0 (zeros n)
unfolding zeros
zeros_placed h x n m e f =
    let long : length (zeros n) ≡ n = length-replicate n 0 in
    let g : m ≡ min (length (zeros n)) (length h - 0) = rw (long, sub-zero) e in
    let k = sized h (zeros n) 0 m (omega arith) g in
    let z : x ≡ take m (zeros n) = f ∙ ap (λ i. replicate i 0) (length-take-le m h (omega (arith, k.1))) ∙ sym (take-replicate m n 0 (omega (arith, k.0, long))) in
    placed h (zeros n) 0 m (omega arith) g x m z refl

-- The lesser of two numbers is one of them.
pub min_is : (m a b : ℕ) → m ≡ min a b → (m ≤ a) × (m ≤ b) × ((a ≤ m) ⊎ (b ≤ m))
min_is m a b e = go (leb a b) refl
  where
    go : (t : Bool) → leb a b ≡ t → (m ≤ a) × (m ≤ b) × ((a ≤ m) ⊎ (b ≤ m))
    go true f = let k = e ∙ min-eq_left (leb-true _ _ f) in (omega arith, omega (arith, leb-true _ _ f), inl (omega arith))
    go false f = let l = leb-false _ _ f in let k = e ∙ min-eq_right (omega arith) in (omega arith, omega arith, inr (omega arith))
