use Prim.Native.Nat.{◌-◌}
use lib.ListN.{length}
use Rattle.names.specs.Steps.{IsLent}
use Rattle.names.proofs.NamePutting.{Putting}
use Rattle.names.proofs.compose_from.Given as goal

abbrev pub invariant-loop-i : goal.invariant-loop-i
invariant-loop-i l = Putting (IsLent l.lent) l.s l.initial.h l.at l.front l.h l.n l.i

abbrev pub decreases-loop-i : goal.decreases-loop-i
decreases-loop-i l = length l.s - l.i
