use Prim.Native.Nat.{◌-◌}
use lib.ListN.{length}
use Rattle.names.specs.Steps.{Front}
use Rattle.names.proofs.own_form.front_from.Given as goal

abbrev pub invariant-loop-i : goal.invariant-loop-i
invariant-loop-i l = Front l.s l.i

abbrev pub decreases-loop-i : goal.decreases-loop-i
decreases-loop-i l = length l.s - l.i
