-- Laws of what is written behind what a region holds.
use Prim.Native.Nat.{ℕ, ◌+◌, ◌-◌, ◌≤◌}
use mathlib.Core.Path.{◌≡◌, refl, ap, sym, ◌∙◌}
use mathlib.Core.List.{◌++◌, append_assoc}
use native.Mathlib.Omega.{arith}
use lib.ListN.{length, length-append, replicate-append-replicate}
use Rattle.text.specs.Bytes.{Bytes}
use Rattle.buffer.specs.Numbers.{zeros, padded}
use Rattle.buffer.specs.Writing.{written}
use Rattle.buffer.proofs.Regions.{length_zeros}
use Rattle.buffer.proofs.Written.{written_here, written_skip, written_over}

pub zeros_add : (n m : ℕ) → zeros (n + m) ≡ zeros n ++ zeros m
unfolding zeros
zeros_add n m = sym (replicate-append-replicate n m 0)

-- Bytes over the first of some zeros.
written_zeros : (n : ℕ) (v : Bytes) → length v ≤ n → written (zeros n) 0 v ≡ v ++ zeros (n - length v)
written_zeros n v l =
    let sum : n ≡ length v + (n - length v) = omega arith in
    ap (λ (k : ℕ). written (zeros k) 0 v) sum
    ∙ ap (λ (r : Bytes). written r 0 v) (zeros_add (length v) (n - length v))
    ∙ written_here v (zeros (length v)) (zeros (n - length v)) 0 (omega (arith, length_zeros (length v)))
    ∙ ap (λ (r : Bytes). r ++ zeros (n - length v)) (written_over v (zeros (length v)) (length_zeros (length v)))

-- A region with more in it.
pub padded_more : (size : ℕ) (l v : Bytes) → length l + length v ≤ size → written (padded size l) (length l) v ≡ padded size (l ++ v)
unfolding padded
padded_more size l v b =
    let at : length l ≡ length l + 0 = omega arith in
    let left : size - length l - length v ≡ size - length (l ++ v) = omega (arith, length-append l v) in
    ap (λ (k : ℕ). written (l ++ zeros (size - length l)) k v) at
    ∙ written_skip l (zeros (size - length l)) v (length l) 0 refl
    ∙ ap (λ (r : Bytes). l ++ r) (written_zeros (size - length l) v (omega arith))
    ∙ sym (append_assoc l v (zeros (size - length l - length v)))
    ∙ ap (λ (k : ℕ). (l ++ v) ++ zeros k) left
