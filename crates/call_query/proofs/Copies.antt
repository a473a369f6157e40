-- Bytes copied over the front of a buffer.
use Prim.Native.Nat.{ℕ, ◌+◌, ◌≤◌}
use mathlib.Core.Path.{◌≡◌, ap, ◌∙◌}
use mathlib.Core.List.{◌++◌}
use native.Mathlib.Omega.{arith}
use lib.ListN.{length, drop}
use lib.Seq.{sets-eq}
use Rattle.text.specs.Bytes.{Bytes}
use Rattle.buffer.specs.Writing.{written}

-- As many bytes as the buffer has, or fewer.
pub front_is : (b v : Bytes) (n : ℕ) → length v ≡ n → n ≤ length b → written b 0 v ≡ v ++ drop n b
unfolding written
front_is b v n e l = let k : 0 + length v ≡ n = omega (arith, e) in sets-eq v b 0 (omega (arith, e, l)) ∙ ap (λ m. v ++ drop m b) k
