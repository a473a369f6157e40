use Rattle.query_core_fit.proofs.Singles.{leaves}
use borrow.Author.Rules.{rules}
use Rattle.query_core_fit.proofs.leaves.put_leaf_in.Goals as goal

pub returns-in-Existence : goal.returns-in-Existence
returns-in-Existence c = search (leaves, rules)
