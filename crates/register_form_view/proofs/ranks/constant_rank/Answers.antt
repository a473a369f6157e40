use Rattle.register_form_view.proofs.Ordering.{ordering}
use borrow.Author.Rules.{rules}
use Rattle.register_form_view.proofs.ranks.constant_rank.Goals as goal

pub returns-in-Scalar : goal.returns-in-Scalar
returns-in-Scalar c = search (ordering, rules)

pub returns-in-String : goal.returns-in-String
returns-in-String c = search (ordering, rules)
