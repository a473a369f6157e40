use lib.ListN.{length-set}
use native.Mathlib.Omega.{arith}
use Rattle.query_core.proofs.Slots.{puts}
use borrow.Author.Rules.{rules}
use Rattle.query_core.proofs.writing.put_head.Goals as goal

pub bounds-h-at-2 : goal.bounds-h-at-2
bounds-h-at-2 c = simp length-set (omega arith)

pub bounds-h-at-3 : goal.bounds-h-at-3
bounds-h-at-3 c = simp length-set (omega arith)

pub bounds-h-at-4 : goal.bounds-h-at-4
bounds-h-at-4 c = simp length-set (omega arith)

pub returns : goal.returns
returns c = search (puts, rules)
