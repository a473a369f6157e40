use Rattle.register_form.specs.Form.{register_in}
use Rattle.register_form_view.proofs.Names.{Passed}
use Rattle.register_form_view.proofs.property_place.Given as goal

abbrev pub invariant-loop-p : goal.invariant-loop-p
invariant-loop-p l = Passed (register_in l.h).properties l.x l.p
