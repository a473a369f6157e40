use borrow.Author.Rules.{rules}
use Rattle.register_join_draft.proofs.Writing.{pages_none, pages_next, pages_all, row_is}
use Rattle.register_join_draft.proofs.put_pages.Goals as goal

pub loop-i-init : goal.loop-i-init
loop-i-init c = pages_none _ _ _ _

pub loop-i-preserved : goal.loop-i-preserved
loop-i-preserved c = pages_next _ _ _ _ _ _ _ _ _ _ _ _ _ _ _ _ c.loop-i.invariant c.loop-i-test.true c.from.ensures c.put.ensures c.put_page-n.ensures c.put_page-n-in-loop-i.ensures (search (row_is, rules))

pub returns : goal.returns
returns c = pages_all _ _ _ _ _ _ _ _ _ _ c.loop-i.invariant c.loop-i-test.false c.from-2.ensures c.put-2.ensures
