use Rattle.register_form_bytes.proofs.Looping.{Declaring}
use Rattle.register_form_bytes.proofs.regions.put_properties.Given as goal

abbrev pub invariant-loop-p : goal.invariant-loop-p
invariant-loop-p l = Declaring l.initial.h l.base l.kinds l.numbers l.names l.n l.h l.p
