use native.Mathlib.Omega.{arith}
use Rattle.names.proofs.Fronts.{block_none, block_more, block_all}
use Rattle.names.proofs.own_form.is_plain_block.Goals as goal

-- src/own_form.rt:52:5
pub loop-i-init : goal.loop-i-init
loop-i-init c = block_none c.args.s.now c.args.at

-- src/own_form.rt:53:36
pub overflow_add-at : goal.overflow_add-at
overflow_add-at c = omega (arith, c.loop-i-test.true, c.requires, c.well_formed)

-- src/own_form.rt:53:34
pub bounds-s-at : goal.bounds-s-at
bounds-s-at c = omega (arith, c.loop-i-test.true, c.requires)

-- src/own_form.rt:52:5
pub loop-i-preserved : goal.loop-i-preserved
loop-i-preserved c = block_more c.args.s.now c.args.at c.loop-i.plain _ _ c.loop-i.invariant c.loop-i-test.true c.requires c.is_plain-plain.ensures

-- src/own_form.rt:46:1
pub returns : goal.returns
returns c = block_all c.args.s.now c.args.at _ _ c.loop-i.invariant c.loop-i-test.false
