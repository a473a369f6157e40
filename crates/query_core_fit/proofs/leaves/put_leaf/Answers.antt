use Rattle.query_core_fit.proofs.Singles.{leaves}
use borrow.Author.Rules.{rules}
use Rattle.query_core_fit.proofs.leaves.put_leaf.Goals as goal

pub returns-in-Category : goal.returns-in-Category
returns-in-Category c = search (leaves, rules)

pub returns-in-Namespace : goal.returns-in-Namespace
returns-in-Namespace c = search (leaves, rules)

pub returns-in-Bare : goal.returns-in-Bare
returns-in-Bare c = search (leaves, rules)

pub returns-in-Qualified : goal.returns-in-Qualified
returns-in-Qualified c = search (leaves, rules)
