use Rattle.register_join_draft.specs.Drafting.{IdentifiersPut}
use Rattle.register_join_draft.proofs.Side.put_identifiers.Given as goal

abbrev pub invariant-loop-i : goal.invariant-loop-i
invariant-loop-i l = IdentifiersPut l.self.held.now l.self.items.now l.initial.list l.initial.table l.from l.i l.list l.table l.n
