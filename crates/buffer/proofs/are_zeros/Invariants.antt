use mathlib.Core.Path.{◌≡◌}
use lib.Dec.{eqb}
use Rattle.buffer.specs.Tests.{zeros_to}
use Rattle.buffer.proofs.are_zeros.Given as goal

abbrev pub invariant-loop-b : goal.invariant-loop-b
invariant-loop-b l = eqb l.bits 0 ≡ zeros_to l.s l.b-index
