use Rattle.names.specs.Steps.{PlainTo}
use Rattle.names.proofs.own_form.own_front.Given as goal

abbrev pub invariant-loop-i : goal.invariant-loop-i
invariant-loop-i l = PlainTo l.s l.i
