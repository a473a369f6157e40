use native.Mathlib.Omega.{arith}
use Rattle.register_join_merge.proofs.Orders.{left_over, none_left}
use Rattle.register_join_merge.proofs.Run.{run_none, run_less, run_next, run_all}
use Rattle.register_join_merge.proofs.Ways.{same_start, same_more}
use Rattle.register_join_merge.proofs.merge.Goals as goal

pub loop-i-init : goal.loop-i-init
loop-i-init c = (run_none _ _ _ _ _ _ _, same_start _)

pub loop-i-smaller : goal.loop-i-smaller
loop-i-smaller c = run_less _ _ _ _ _ _ _ _ _ _ _ _ _ _ _ _ c.loop-i.invariant.0 _ _ _ _ _ _ _ _ _ _ _ _ _ (omega (arith, c.text_count-n.ensures)) (omega (arith, c.text_count-m.ensures)) (left_over _ _ _ _ _ _ c.text_count-n.ensures c.text_count-m.ensures c.loop-i-test.true) c.compare_next-order.ensures c.next_text.ensures c.add-end.ensures.added c.takes_first.ensures c.note-i.ensures c.takes_second.ensures c.note-j.ensures c.next-k.ensures

pub loop-i-preserved : goal.loop-i-preserved
loop-i-preserved c = (run_next _ _ _ _ _ _ _ _ _ _ _ _ _ _ _ _ c.loop-i.invariant.0 _ _ _ _ _ _ _ _ _ _ _ _ _ (omega (arith, c.text_count-n.ensures)) (omega (arith, c.text_count-m.ensures)) (left_over _ _ _ _ _ _ c.text_count-n.ensures c.text_count-m.ensures c.loop-i-test.true) c.compare_next-order.ensures c.next_text.ensures c.add-end.ensures.added c.takes_first.ensures c.note-i.ensures c.takes_second.ensures c.note-j.ensures c.next-k.ensures, same_more _ _ _ c.loop-i.invariant.1 c.add-end.ensures.same_slices)

pub shape_of-items1 : goal.shape_of-items1
shape_of-items1 c = c.loop-i.invariant.0.items1_size

pub shape_of-items2 : goal.shape_of-items2
shape_of-items2 c = c.loop-i.invariant.0.items2_size

pub returns-clause-merged : goal.returns-clause-merged
returns-clause-merged c = let none = none_left _ _ _ _ _ _ c.text_count-n.ensures c.text_count-m.ensures c.loop-i-test.false in run_all _ _ _ _ _ _ _ _ _ _ _ _ _ _ _ _ c.loop-i.invariant.0 none.0 none.1

pub returns-clause-same_slices : goal.returns-clause-same_slices
returns-clause-same_slices c = c.loop-i.invariant.1
