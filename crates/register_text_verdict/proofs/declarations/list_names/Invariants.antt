use Rattle.register_text_verdict.proofs.Naming.{Listing}
use Rattle.register_text_verdict.proofs.declarations.list_names.Given as goal

abbrev pub invariant-loop-k : goal.invariant-loop-k
invariant-loop-k l = Listing l.s l.t l.rows l.m l.initial.starts l.initial.lens l.starts l.lens l.k
