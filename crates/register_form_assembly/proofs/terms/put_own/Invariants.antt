use Prim.Native.Nat.{◌-◌}
use Rattle.register_form_assembly.specs.Terms.{Filling}
use Rattle.register_form_assembly.proofs.terms.put_own.Given as goal

abbrev pub invariant-loop-i : goal.invariant-loop-i
invariant-loop-i l = Filling (λ j. j) l.initial.t l.i l.t
