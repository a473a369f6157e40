use mathlib.Core.Path.{◌≡◌, refl, ◌∙◌}
use Rattle.std.proofs.Common.{rules, nat_eq, false}
use Rattle.query_tree_test.proofs.Stacks.{stack_none, stops, run_lacks, run_unmade, run_high, stack_more, not_one, is_one}
use Rattle.query_tree_test.proofs.passing.passes.Goals as goal

pub loop-i-init : goal.loop-i-init
loop-i-init c = stack_none _ _ refl

pub returns-then-count-taken : goal.returns-then-count-taken
returns-then-count-taken c = stops c.args.h.now _ _ (c.from-n.ensures ∙ c.two_at.ensures) (search rules) (run_lacks c.args.h.now _ _ _ c.loop-i.invariant c.node_at-node.result c.node_at-node.ensures _ c.arity-taken.ensures c.if-count-taken.true)

pub returns-in_default : goal.returns-in_default
returns-in_default c = stops c.args.h.now _ _ (c.from-n.ensures ∙ c.two_at.ensures) (search rules) (run_unmade c.args.h.now _ _ _ c.loop-i.invariant c.node_at-node.result c.node_at-node.ensures _ c.arity-taken.ensures c.if-count-taken.false _ _ refl refl _ c.part-s.ensures _ c.made.ensures c.in_default.is)

pub returns-then-count-gt28 : goal.returns-then-count-gt28
returns-then-count-gt28 c = stops c.args.h.now _ _ (c.from-n.ensures ∙ c.two_at.ensures) (search rules) (run_high c.args.h.now _ _ _ c.loop-i.invariant c.node_at-node.result c.node_at-node.ensures _ c.arity-taken.ensures c.if-count-taken.false _ _ refl refl _ c.part-s.ensures _ c.made.ensures _ c.in-Some.is c.if-count-gt28.true)

pub loop-i-preserved : goal.loop-i-preserved
loop-i-preserved c = stack_more c.args.h.now _ _ _ c.loop-i.invariant c.node_at-node.result c.node_at-node.ensures _ c.arity-taken.ensures c.if-count-taken.false _ _ refl refl _ c.part-s.ensures _ c.made.ensures _ c.in-Some.is c.if-count-gt28.false

pub returns-then-count-eq1 : goal.returns-then-count-eq1
returns-then-count-eq1 c = is_one c.args.h.now _ _ _ _ c.loop-i.invariant (c.from-n.ensures ∙ c.two_at.ensures) (search rules) (search rules) c.if-count-eq1.true _ refl _ c.is_whole.ensures

pub returns-else-count-eq1 : goal.returns-else-count-eq1
returns-else-count-eq1 c = let e : nat_eq c.loop-i.count 1 ≡ false = search rules in e ∙ not_one c.args.h.now _ _ _ _ c.loop-i.invariant (c.from-n.ensures ∙ c.two_at.ensures) (search rules) (search rules) c.if-count-eq1.false
