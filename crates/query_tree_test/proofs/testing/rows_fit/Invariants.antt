use Rattle.query_tree_test.proofs.Loops.{Fitted}
use Rattle.query_tree_test.proofs.testing.rows_fit.Given as goal

abbrev pub invariant-loop-i : goal.invariant-loop-i
invariant-loop-i l = Fitted l.h l.i l.at
