use Rattle.query_core_fit.proofs.Fitted.{fitted}
use borrow.Author.Rules.{rules}
use Rattle.query_core_fit.proofs.fit_tree.Goals as goal

pub returns-then-some_undeclared : goal.returns-then-some_undeclared
returns-then-some_undeclared c = search (fitted, rules)

pub returns-in_default : goal.returns-in_default
returns-in_default c = search (fitted, rules)

pub returns-then-count_of-gt-MOST_NODES : goal.returns-then-count_of-gt-MOST_NODES
returns-then-count_of-gt-MOST_NODES c = search (fitted, rules)

pub returns : goal.returns
returns c = search (fitted, rules)
