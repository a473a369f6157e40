use Rattle.call_register.proofs.Preparing.{Testing}
use Rattle.call_register.proofs.is_ascii.Given as goal

abbrev pub invariant-loop-b : goal.invariant-loop-b
invariant-loop-b l = Testing l.s l.ascii l.b-index
