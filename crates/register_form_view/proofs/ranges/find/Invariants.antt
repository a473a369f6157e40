use Prim.Native.Nat.{◌-◌}
use Rattle.register_form_view.proofs.Searching.{Between}
use Rattle.register_form_view.proofs.ranges.find.Given as goal

abbrev pub invariant-loop-lo : goal.invariant-loop-lo
invariant-loop-lo l = Between l.h l.index l.key l.lo l.hi

abbrev pub decreases-loop-lo : goal.decreases-loop-lo
decreases-loop-lo l = l.hi - l.lo
