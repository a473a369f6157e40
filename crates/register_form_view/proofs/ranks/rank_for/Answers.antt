use Rattle.register_form_view.proofs.Ordering.{ordering}
use borrow.Author.Rules.{rules}
use Rattle.register_form_view.proofs.ranks.rank_for.Goals as goal

pub returns-in-Constant : goal.returns-in-Constant
returns-in-Constant c = search (ordering, rules)

pub returns-in-Reference : goal.returns-in-Reference
returns-in-Reference c = search (ordering, rules)
