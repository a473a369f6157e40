use native.Mathlib.Omega.{arith}
use Rattle.register_form_view.proofs.Searching.{between_all, between_up, between_down, ranked_between}
use Rattle.register_form_view.proofs.ranges.find.Goals as goal

pub loop-lo-init : goal.loop-lo-init
loop-lo-init c = between_all _ _ _ _ c.entry_count-hi.ensures

pub overflow_sub-m : goal.overflow_sub-m
overflow_sub-m c = omega arith

pub overflow_add-m : goal.overflow_add-m
overflow_add-m c = omega arith

pub overflow_add-lo : goal.overflow_add-lo
overflow_add-lo c = omega arith

pub loop-lo-smaller-then-is_lt : goal.loop-lo-smaller-then-is_lt
loop-lo-smaller-then-is_lt c = omega arith

pub loop-lo-preserved-then-is_lt : goal.loop-lo-preserved-then-is_lt
loop-lo-preserved-then-is_lt c = between_up _ _ _ _ _ _ _ _ c.loop-lo.invariant (omega arith) (omega arith) c.compare_entry.ensures c.is_lt.ensures c.if-is_lt.true

pub loop-lo-smaller : goal.loop-lo-smaller
loop-lo-smaller c = omega arith

pub loop-lo-preserved : goal.loop-lo-preserved
loop-lo-preserved c = between_down _ _ _ _ _ _ _ _ c.loop-lo.invariant (omega arith) (omega arith) c.compare_entry.ensures c.is_lt.ensures c.if-is_lt.false

pub returns : goal.returns
returns c = ranked_between _ _ _ _ _ c.loop-lo.invariant c.loop-lo-test.false
