use Prim.Native.Nat.{◌+◌}
use mathlib.Core.Path.{◌≡◌}
use lib.ListN.{drop}
use Rattle.text.specs.Bytes.{span}
use Rattle.text.specs.Class.{in_class}
use Rattle.text.proofs.scan.Given as goal

abbrev pub invariant-loop-i : goal.invariant-loop-i
invariant-loop-i l = l.at + span (in_class l.class) (drop l.at l.s) ≡ l.i + span (in_class l.class) (drop l.i l.s)
