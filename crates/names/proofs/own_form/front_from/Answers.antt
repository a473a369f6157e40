use native.Mathlib.Omega.{arith}
use Rattle.names.proofs.Fronts.{front_more, front_marked, front_ends, front_whole}
use Rattle.names.proofs.own_form.front_from.Goals as goal

-- src/own_form.rt:25:5
pub loop-i-init : goal.loop-i-init
loop-i-init c = c.requires

-- src/own_form.rt:27:28
pub overflow_add-i : goal.overflow_add-i
overflow_add-i c = omega (arith, c.loop-i-test.true)

-- src/own_form.rt:29:13
pub returns-then-b : goal.returns-then-b
returns-then-b c = front_marked _ _ c.loop-i.invariant c.loop-i-test.true _ c.get_or-b.ensures c.if-b.true

-- src/own_form.rt:34:13
pub returns-then-w-eq0 : goal.returns-then-w-eq0
returns-then-w-eq0 c = front_ends _ _ c.loop-i.invariant c.loop-i-test.true _ c.get_or-b.ensures c.if-b.false _ c.lone_letter-x.ensures c.if-w-eq0.true

-- src/own_form.rt:36:9
pub overflow_add-i-in-loop-i : goal.overflow_add-i-in-loop-i
overflow_add-i-in-loop-i c = omega (arith, (front_more _ _ c.loop-i.invariant c.loop-i-test.true _ c.get_or-b.ensures c.if-b.false _ c.lone_letter-x.ensures c.if-w-eq0.false).most)

-- src/own_form.rt:25:5
pub loop-i-smaller : goal.loop-i-smaller
loop-i-smaller c = omega (arith, c.loop-i-test.true, c.if-w-eq0.false)

-- src/own_form.rt:25:5
pub loop-i-preserved : goal.loop-i-preserved
loop-i-preserved c = front_more _ _ c.loop-i.invariant c.loop-i-test.true _ c.get_or-b.ensures c.if-b.false _ c.lone_letter-x.ensures c.if-w-eq0.false

-- src/own_form.rt:20:1
pub returns : goal.returns
returns c = front_whole _ _ c.loop-i.invariant c.loop-i-test.false
