use native.Mathlib.Omega.{arith}
use Rattle.names.proofs.OwnForm.{paired_none, paired_first, paired_more, paired_all}
use Rattle.names.proofs.own_form.all_paired.Goals as goal

-- src/own_form.rt:78:9
pub returns-then-s-eq0 : goal.returns-then-s-eq0
returns-then-s-eq0 c = paired_none _ c.if-s-eq0.true

-- src/own_form.rt:82:5
pub loop-i-init : goal.loop-i-init
loop-i-init c = paired_first _ _ c.if-s-eq0.false c.does_follow-fits.ensures

-- src/own_form.rt:83:37
pub overflow_sub-i : goal.overflow_sub-i
overflow_sub-i c = omega (arith, c.loop-i.invariant.least)

-- src/own_form.rt:83:35
pub bounds-s-i : goal.bounds-s-i
bounds-s-i c = omega (arith, c.loop-i.invariant.least, c.loop-i-test.true)

-- src/own_form.rt:82:5
pub loop-i-preserved : goal.loop-i-preserved
loop-i-preserved c = paired_more _ _ _ c.loop-i.invariant _ c.loop-i-test.true c.does_follow-fits-in-loop-i.ensures

-- src/own_form.rt:86:23
pub overflow_sub-s : goal.overflow_sub-s
overflow_sub-s c = omega (arith, c.loop-i.invariant.least, c.loop-i.invariant.most)

-- src/own_form.rt:86:21
pub bounds-s-s : goal.bounds-s-s
bounds-s-s c = omega (arith, c.loop-i.invariant.least, c.loop-i.invariant.most)

-- src/own_form.rt:74:1
pub returns : goal.returns
returns c = paired_all _ _ _ c.loop-i.invariant _ c.loop-i-test.false c.is_lead.ensures
