use mathlib.Core.Path.{◌≡◌}
use lib.ListN.{drop}
use Rattle.text.specs.Bytes.{order_of}
use Rattle.text.proofs.compare_from.Given as goal

abbrev pub invariant-loop-i : goal.invariant-loop-i
invariant-loop-i l = order_of (drop l.from l.a) (drop l.from l.b) ≡ order_of (drop l.i l.a) (drop l.i l.b)
