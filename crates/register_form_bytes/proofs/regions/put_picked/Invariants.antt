use Rattle.register_form_bytes.proofs.Looping.{Picking}
use Rattle.register_form_bytes.proofs.regions.put_picked.Given as goal

abbrev pub invariant-loop-i : goal.invariant-loop-i
invariant-loop-i l = Picking l.initial.h l.base l.table l.picks l.n l.h l.i
