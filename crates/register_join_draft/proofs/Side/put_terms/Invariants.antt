use Rattle.text.specs.Table.{tabulate}
use Rattle.register_join_draft.specs.Drafting.{new_term, TermsPut}
use Rattle.register_join_draft.proofs.Side.put_terms.Given as goal

abbrev pub invariant-loop-f : goal.invariant-loop-f
invariant-loop-f l = TermsPut l.initial.groups l.initial.codes l.from (tabulate l.f (new_term l.self.held.now l.self.items.now l.table)) l.groups l.codes l.n
