use Prim.Native.Nat.{◌<◌}
use mathlib.Core.Path.{◌≡◌}
use lib.ListN.{drop}
use Rattle.values.specs.Values.{decimal}
use Rattle.values.proofs.Decimal.{wholes}
use Rattle.values.proofs.numbers.read_digits.Given as goal

abbrev pub invariant-loop-b : goal.invariant-loop-b
invariant-loop-b l = (decimal 0 l.s < wholes) × (decimal 0 l.s ≡ decimal l.n (drop l.b-index l.s))
