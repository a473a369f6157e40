use Prim.Native.Nat.{◌-◌}
use Rattle.register_form_assembly.specs.Drafts.{term_sizes}
use Rattle.register_form_assembly.proofs.Counts.{Summing}
use Rattle.register_form_assembly.proofs.counting.count_each.Given as goal

abbrev pub invariant-loop-i : goal.invariant-loop-i
invariant-loop-i l = Summing (term_sizes l.draft l.refs) l.table l.n l.before l.sum l.i
