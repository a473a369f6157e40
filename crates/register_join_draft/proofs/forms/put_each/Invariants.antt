use Rattle.register_join_draft.proofs.Writing.{FormsPut}
use Rattle.register_join_draft.proofs.forms.put_each.Given as goal

abbrev pub invariant-loop-j : goal.invariant-loop-j
invariant-loop-j l = FormsPut l.h l.base l.first l.end l.j l.initial.uses l.from l.uses l.n
