use Rattle.register_form_bytes.proofs.Looping.{Numbering}
use Rattle.register_form_bytes.proofs.regions.put_each.Given as goal

abbrev pub invariant-loop-i : goal.invariant-loop-i
invariant-loop-i l = Numbering l.initial.h l.base l.table l.n l.h l.i
