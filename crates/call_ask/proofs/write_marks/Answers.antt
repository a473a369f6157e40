use Rattle.call_ask.proofs.Writing.{writing_none, writing_more, writing_all, no_room}
use Rattle.call_ask.proofs.write_marks.Goals as goal

pub returns-then-out-end : goal.returns-then-out-end
returns-then-out-end c = no_room _ _ _ _ _ c.capped.ensures c.from-end.ensures c.if-out-end.true

pub loop-i-init : goal.loop-i-init
loop-i-init c = writing_none _ _ _

pub loop-i-preserved : goal.loop-i-preserved
loop-i-preserved c = writing_more _ _ _ _ _ c.loop-i.invariant _ _ c.if-out-end.false c.loop-i-test.true c.mark_at.ensures c.from.ensures

pub returns : goal.returns
returns c = writing_all _ _ _ _ _ c.loop-i.invariant _ _ c.capped.ensures c.from-end.ensures c.loop-i-test.false
