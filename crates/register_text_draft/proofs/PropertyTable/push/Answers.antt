use Rattle.register_text_draft.proofs.Rows.{property_pushed}
use Rattle.register_text_draft.proofs.Lent.{properties_written}
use Rattle.register_text_draft.proofs.PropertyTable.push.Goals as goal

pub returns-clause-pushed : goal.returns-clause-pushed
returns-clause-pushed c = property_pushed c.args.self.now.kinds.now c.args.self.now.names.now c.args.self.now.count c.args.kind c.args.name _ _ c.from-n.ensures c.from.ensures _ c.put.ensures _ c.put-2.ensures _ c.next-self.ensures

pub returns-clause-same_slices : goal.returns-clause-same_slices
returns-clause-same_slices c = properties_written _ _ _ _ c.put.ensures _ _ _ c.put-2.ensures _
