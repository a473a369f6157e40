use mathlib.Core.Path.{◌∙◌}
use native.Mathlib.Omega.{arith}
use Rattle.query_tree_test.proofs.Loops.{exact_many, exact_unfit, exact_is}
use Rattle.query_tree_test.proofs.testing.is_exact.Goals as goal

pub returns-then-n-gt-MOST_NODES : goal.returns-then-n-gt-MOST_NODES
returns-then-n-gt-MOST_NODES c = exact_many c.args.h.now _ (c.from-n.ensures ∙ c.two_at.ensures) c.if-n-gt-MOST_NODES.true

pub returns-in_default : goal.returns-in_default
returns-in_default c = exact_unfit c.args.h.now _ (c.from-n.ensures ∙ c.two_at.ensures) c.if-n-gt-MOST_NODES.false _ c.rows_fit.ensures c.in_default.is

pub overflow_add-end : goal.overflow_add-end
overflow_add-end c = omega (arith, (c.rows_fit.ensures.ends _ c.in-Some.is).1)

pub overflow_sub-end : goal.overflow_sub-end
overflow_sub-end c = omega (arith, (c.rows_fit.ensures.ends _ c.in-Some.is).1)

pub returns : goal.returns
returns c = exact_is c.args.h.now _ (c.from-n.ensures ∙ c.two_at.ensures) c.if-n-gt-MOST_NODES.false _ c.rows_fit.ensures _ c.in-Some.is _ _ c.zeros.ensures c.zeros-2.ensures
