use Rattle.register_text_verdict.proofs.Loops.{collect_start, collect_fits, collect_more, collect_end}
use native.Mathlib.Omega.{arith}
use Rattle.register_text_verdict.proofs.collect.Goals as goal

pub loop-i-init : goal.loop-i-init
loop-i-init c = collect_start _ _ _ _

pub overflow_add-m : goal.overflow_add-m
overflow_add-m c = omega (arith, collect_fits _ _ _ _ _ _ _ c.loop-i.invariant c.loop-i-test.true c.item_at.result c.item_at.ensures _ c.is_declared.ensures _ c.from-m.ensures)

pub loop-i-preserved : goal.loop-i-preserved
loop-i-preserved c = collect_more _ _ _ _ _ _ _ c.loop-i.invariant c.loop-i-test.true c.item_at.result c.item_at.ensures _ c.is_declared.ensures _ c.from-m.ensures _ c.put.ensures

pub shape_of-out : goal.shape_of-out
shape_of-out c = c.loop-i.invariant.size

pub returns : goal.returns
returns c = collect_end _ _ _ _ _ _ _ c.loop-i.invariant c.loop-i-test.false
