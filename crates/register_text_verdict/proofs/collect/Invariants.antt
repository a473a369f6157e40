use Rattle.register_text_verdict.proofs.Loops.{Collecting}
use Rattle.register_text_verdict.proofs.collect.Given as goal

abbrev pub invariant-loop-i : goal.invariant-loop-i
invariant-loop-i l = Collecting l.what l.t l.n l.initial.out l.out l.m l.i
