use Rattle.register_join_draft.specs.Drafting.{PropertiesPut}
use Rattle.register_join_draft.proofs.Side.put_properties.Given as goal

abbrev pub invariant-loop-p : goal.invariant-loop-p
invariant-loop-p l = PropertiesPut l.self.held.now l.self.items.now l.initial.kinds l.initial.names l.initial.table l.from l.p l.kinds l.names l.table l.n
