use mathlib.Core.Path.{refl, sym, ◌∙◌}
use native.Mathlib.Omega.{arith}
use Rattle.text.proofs.Laws.{both_end, left_ends, right_ends, less_here, greater_here, same_here}
use Rattle.text.proofs.compare_from.Goals as goal

pub loop-i-init : goal.loop-i-init
loop-i-init c = refl

pub returns-then-b-i : goal.returns-then-b-i
returns-then-b-i c = sym (c.loop-i.invariant ∙ right_ends _ _ _ c.loop-i-test.true c.if-b-i.true)

pub returns-then-a-i : goal.returns-then-a-i
returns-then-a-i c = sym (c.loop-i.invariant ∙ less_here _ _ _ c.loop-i-test.true c.if-b-i.false c.if-a-i.true)

pub returns-then-b-i-2 : goal.returns-then-b-i-2
returns-then-b-i-2 c = sym (c.loop-i.invariant ∙ greater_here _ _ _ c.loop-i-test.true c.if-b-i.false c.if-b-i-2.true)

pub loop-i-preserved : goal.loop-i-preserved
loop-i-preserved c = c.loop-i.invariant ∙ same_here _ _ _ c.loop-i-test.true c.if-b-i.false c.if-a-i.false c.if-b-i-2.false

pub returns-then-a-b : goal.returns-then-a-b
returns-then-a-b c = sym (c.loop-i.invariant ∙ left_ends c.args.a.now c.args.b.now c.loop-i.i (omega arith) (omega arith))

pub returns-else-a-b : goal.returns-else-a-b
returns-else-a-b c = sym (c.loop-i.invariant ∙ both_end c.args.a.now c.args.b.now c.loop-i.i (omega arith) (omega arith))
