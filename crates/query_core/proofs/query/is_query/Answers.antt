use native.Mathlib.Omega.{arith}
use Rattle.query_core.proofs.Stacks.{height_zero, query_unsized, query_broken, query_done, height_unread, height_lacks, height_step}
use Rattle.query_core.proofs.query.is_query.Goals as goal

pub returns-then-not-sized : goal.returns-then-not-sized
returns-then-not-sized c = query_unsized _ _ _ c.two_at.ensures c.from-count.ensures c.if-not-sized.true-raw

pub loop-i-init : goal.loop-i-init
loop-i-init c = (height_zero _, omega arith)

pub returns-in_default : goal.returns-in_default
returns-in_default c = query_broken _ _ _ c.two_at.ensures c.from-count.ensures c.if-not-sized.false-raw _ c.loop-i-test.true (height_unread _ _ _ c.loop-i.invariant.0 _ c.node_at.ensures c.in_default.is)

pub returns-then-height-taken : goal.returns-then-height-taken
returns-then-height-taken c = query_broken _ _ _ c.two_at.ensures c.from-count.ensures c.if-not-sized.false-raw _ c.loop-i-test.true (height_lacks _ _ _ c.loop-i.invariant.0 _ c.node_at.ensures _ c.in-Some.is _ c.arity-taken.ensures c.if-height-taken.true)

pub loop-i-preserved : goal.loop-i-preserved
loop-i-preserved c = (height_step _ _ _ c.loop-i.invariant.0 _ c.node_at.ensures _ c.in-Some.is _ c.arity-taken.ensures c.if-height-taken.false, omega arith)

pub returns : goal.returns
returns c = query_done _ _ _ c.two_at.ensures c.from-count.ensures c.if-not-sized.false-raw _ _ c.loop-i-test.false (omega arith) c.loop-i.invariant.0
