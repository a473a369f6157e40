use Prim.Native.Nat.{◌-◌, ◌≤◌}
use Rattle.register_form_assembly.specs.Keeping.{PassKept}
use Rattle.register_form_assembly.proofs.keeping.keep_pass.Given as goal

abbrev pub invariant-loop-f : goal.invariant-loop-f
invariant-loop-f l = (l.from ≤ l.f) × (l.f - l.from ≤ l.to - l.from) × PassKept l.page l.first l.draft.groups.now l.numbers l.draft.uses.now l.from l.f l.initial.used l.initial.table l.n l.used l.table l.count
