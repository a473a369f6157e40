use Prim.Native.Nat.{◌*◌}
use mathlib.Core.Path.{◌≡◌}
use mathlib.Core.Bool.{true}
use Rattle.buffer.specs.Tests.{zeros_to}
use Rattle.buffer.proofs.zeros.Given as goal

abbrev pub invariant-loop-k : goal.invariant-loop-k
invariant-loop-k l = zeros_to l.s (256 * l.k) ≡ true
