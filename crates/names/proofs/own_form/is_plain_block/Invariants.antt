use Rattle.names.proofs.Fronts.{BlockTo}
use Rattle.names.proofs.own_form.is_plain_block.Given as goal

abbrev pub invariant-loop-i : goal.invariant-loop-i
invariant-loop-i l = BlockTo l.s l.at l.plain l.i
