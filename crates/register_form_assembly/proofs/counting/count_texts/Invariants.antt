use Prim.Native.Nat.{◌-◌}
use Rattle.register_form_assembly.specs.Drafts.{text_sizes}
use Rattle.register_form_assembly.proofs.Counts.{Summing}
use Rattle.register_form_assembly.proofs.counting.count_texts.Given as goal

abbrev pub invariant-loop-i : goal.invariant-loop-i
invariant-loop-i l = Summing (text_sizes l.texts) l.items l.n l.before l.sum l.i
