use Rattle.values.proofs.Ruling.{Ruling}
use Rattle.values.proofs.rules.ruled_out.Given as goal

abbrev pub invariant-loop-b : goal.invariant-loop-b
invariant-loop-b l = Ruling l.rules l.s l.out l.b-index
