use Rattle.register_text_draft.proofs.Rows.{page_pushed}
use Rattle.register_text_draft.proofs.Lent.{pages_written}
use Rattle.register_text_draft.proofs.PageTable.push.Goals as goal

pub returns-clause-pushed : goal.returns-clause-pushed
returns-clause-pushed c = page_pushed c.args.self.now.identifiers.now c.args.self.now.firsts.now c.args.self.now.count c.args.f c.args.identifier _ c.from-n.ensures _ c.put.ensures _ c.put-2.ensures _ c.next-self.ensures

pub returns-clause-same_slices : goal.returns-clause-same_slices
returns-clause-same_slices c = pages_written _ _ _ _ c.put.ensures _ _ _ c.put-2.ensures _
