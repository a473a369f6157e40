use native.Mathlib.Omega.{arith}
use lib.ListN.{length-set}
use Rattle.std.proofs.Common.{rules}
use Rattle.query_tree_write.proofs.Laws.{row_written}
use Rattle.query_tree_write.proofs.put_row.Goals as goal

pub bounds-tree-at-2 : goal.bounds-tree-at-2
bounds-tree-at-2 c = simp length-set (omega arith)

pub bounds-tree-at-3 : goal.bounds-tree-at-3
bounds-tree-at-3 c = simp length-set (omega arith)

pub bounds-tree-at-4 : goal.bounds-tree-at-4
bounds-tree-at-4 c = simp length-set (omega arith)

pub bounds-tree-at-5 : goal.bounds-tree-at-5
bounds-tree-at-5 c = simp length-set (omega arith)

pub bounds-tree-at-6 : goal.bounds-tree-at-6
bounds-tree-at-6 c = simp length-set (omega arith)

pub returns : goal.returns
returns c = row_written _ _ _ (search rules)
