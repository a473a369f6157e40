-- Laws of a part that is two strings, that stands between others, or that was written.
use Prim.Native.Nat.{ℕ, ◌+◌, ◌≤◌}
use mathlib.Core.Path.{◌≡◌, refl, ap, sym, ◌∙◌}
use mathlib.Core.List.{◌++◌}
use native.Mathlib.Omega.{arith}
use lib.ListN.{length, take, drop, length-append, length-drop, take-append-drop}
use lib.Seq.{take_all, length-take-le}
use Rattle.text.specs.Bytes.{Bytes, part}
use Rattle.buffer.specs.Writing.{written}
use Rattle.buffer.proofs.Parts.{part_part, part_before, part_behind}
use Rattle.buffer.proofs.Written.{written_skip, written_here, written_over}

-- What stands between other bytes.
pub part_middle : (a b c : Bytes) (n m : ℕ) → length a ≡ n → length b ≡ m → part (a ++ (b ++ c)) n m ≡ b
part_middle a b c n m e f =
    let z : n ≡ n + 0 = omega arith in
    ap (λ (k : ℕ). part (a ++ (b ++ c)) k m) z ∙ part_behind a (b ++ c) n 0 m e ∙ part_before b c 0 m (omega (arith, f)) ∙ take_all m b (omega (arith, f))

-- The first and the second of two strings that stand at a place.
module _ (s : Bytes) (at : ℕ) (x y : Bytes) (e : part s at (length (x ++ y)) ≡ x ++ y) where
  pub part_first : part s at (length x) ≡ x
  part_first =
      let z : at ≡ at + 0 = omega arith in
      ap (λ (k : ℕ). part s k (length x)) z ∙ sym (part_part s at (length (x ++ y)) 0 (length x) (omega (arith, length-append x y))) ∙ ap (λ (r : Bytes). part r 0 (length x)) e
      ∙ part_before x y 0 (length x) (omega arith) ∙ take_all (length x) x (omega arith)

  pub part_second : part s (at + length x) (length y) ≡ y
  part_second =
      let z : length x ≡ length x + 0 = omega arith in
      sym (part_part s at (length (x ++ y)) (length x) (length y) (omega (arith, length-append x y))) ∙ ap (λ (r : Bytes). part r (length x) (length y)) e
      ∙ ap (λ (k : ℕ). part (x ++ y) k (length y)) z ∙ part_behind x y (length x) 0 (length y) refl ∙ take_all (length y) y (omega arith)

-- What is written at a place leaves what lies before it, and is there.
module _ (c v : Bytes) (at : ℕ) where
  parted : at ≤ length c → written c at v ≡ take at c ++ written (drop at c) 0 v
  parted h =
      let k : length (take at c) ≡ at = length-take-le at c h in
      let z : at ≡ at + 0 = omega arith in
      ap (λ (x : Bytes). written x at v) (sym (take-append-drop at c)) ∙ ap (λ (n : ℕ). written (take at c ++ drop at c) n v) z ∙ written_skip (take at c) (drop at c) v at 0 k

  pub part_below : at ≤ length c → (a n : ℕ) → a + n ≤ at → part (written c at v) a n ≡ part c a n
  part_below h a n l =
      let k : a + n ≤ length (take at c) = omega (arith, length-take-le at c h) in
      ap (λ (x : Bytes). part x a n) (parted h) ∙ part_before (take at c) (written (drop at c) 0 v) a n k
      ∙ sym (ap (λ (x : Bytes). part x a n) (sym (take-append-drop at c)) ∙ part_before (take at c) (drop at c) a n k)

  pub part_there : at + length v ≤ length c → part (written c at v) at (length v) ≡ v
  part_there h =
      let d = drop at c in
      let n = length v in
      let k : length (take n d) ≡ n = length-take-le n d (omega (arith, length-drop at c)) in
      let w : written d 0 v ≡ v ++ drop n d = ap (λ (x : Bytes). written x 0 v) (sym (take-append-drop n d)) ∙ written_here v (take n d) (drop n d) 0 (omega (arith, k)) ∙ ap (λ (x : Bytes). x ++ drop n d) (written_over v (take n d) k) in
      ap (λ (x : Bytes). part x at n) (parted (omega arith) ∙ ap (λ (x : Bytes). take at c ++ x) w)
      ∙ part_middle (take at c) v (drop n d) at n (length-take-le at c (omega arith)) refl
