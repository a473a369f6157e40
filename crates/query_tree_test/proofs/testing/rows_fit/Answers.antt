use native.Mathlib.Omega.{arith}
use borrow.Author.Tests.{not-true, not-false}
use Rattle.std.proofs.Common.{rules}
use Rattle.query_tree_test.proofs.Loops.{rows_none, rows_more, rows_stop, rows_all}
use Rattle.query_tree_test.proofs.testing.rows_fit.Goals as goal

pub loop-i-init : goal.loop-i-init
loop-i-init c = rows_none _

pub returns-then-not-row_fits : goal.returns-then-not-row_fits
returns-then-not-row_fits c = rows_stop c.args.h.now _ _ _ c.loop-i.invariant c.row_at-row.ensures _ _ c.row_fits.ensures (not-true _ c.if-not-row_fits.true-raw) (search rules)

pub overflow_add-at : goal.overflow_add-at
overflow_add-at c = omega (arith, c.loop-i.invariant.most, c.from.ensures)

pub overflow_add-at-in-loop-i : goal.overflow_add-at-in-loop-i
overflow_add-at-in-loop-i c = omega (arith, c.loop-i.invariant.most, c.from.ensures, c.from-in-loop-i.ensures)

pub loop-i-preserved : goal.loop-i-preserved
loop-i-preserved c = rows_more c.args.h.now _ _ _ c.loop-i.invariant c.row_at-row.ensures _ _ _ c.row_fits.ensures (not-false _ c.if-not-row_fits.false-raw) c.from.ensures c.from-in-loop-i.ensures

pub returns : goal.returns
returns c = rows_all c.args.h.now _ _ _ c.loop-i.invariant (search rules) (search rules)
