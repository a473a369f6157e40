use Rattle.query_tree_test.proofs.Stacks.{Stacked}
use Rattle.query_tree_test.proofs.passing.passes.Given as goal

abbrev pub invariant-loop-i : goal.invariant-loop-i
invariant-loop-i l = Stacked l.h l.i l.items l.count
