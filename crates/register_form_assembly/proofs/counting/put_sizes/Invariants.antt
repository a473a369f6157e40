use Prim.Native.Nat.{◌-◌}
use Rattle.register_form_assembly.specs.Counting.{capped}
use Rattle.register_form_assembly.specs.Drafts.{term_sizes}
use Rattle.register_form_assembly.specs.Terms.{Filling}
use Rattle.register_form_assembly.proofs.counting.put_sizes.Given as goal

abbrev pub invariant-loop-t : goal.invariant-loop-t
invariant-loop-t l = Filling (capped (term_sizes l.draft l.refs)) l.initial.sizes l.t l.sizes
