use Prim.Native.Nat.{◌-◌}
use Rattle.register_form_assembly.proofs.Coding.{Terming}
use Rattle.register_form_assembly.proofs.terms.put_terms.Given as goal

abbrev pub invariant-loop-f : goal.invariant-loop-f
invariant-loop-f l = Terming l.kinds l.numbers l.groups l.codes l.n l.initial.table l.table l.f
