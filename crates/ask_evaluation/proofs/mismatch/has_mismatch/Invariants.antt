use Rattle.ask_evaluation.specs.Mixing.{SomeMixes}
use Rattle.ask_evaluation.proofs.mismatch.has_mismatch.Given as goal

abbrev pub invariant-loop-i : goal.invariant-loop-i
invariant-loop-i l = SomeMixes l.h l.q l.i l.some
