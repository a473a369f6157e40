use Prim.Native.Nat.{◌-◌, ◌≤◌}
use Rattle.register_form_assembly.proofs.Keepings.{Paging}
use Rattle.register_form_assembly.proofs.keeping.keep_forms.Given as goal

abbrev pub invariant-loop-page : goal.invariant-loop-page
invariant-loop-page l = Paging l.draft.groups.now l.numbers l.draft.uses.now l.draft.firsts.now l.draft.page_count l.initial.table l.initial.starts l.page l.used l.table l.starts l.count
