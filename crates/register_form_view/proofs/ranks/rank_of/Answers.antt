use Rattle.register_form_view.proofs.Ordering.{ordering}
use borrow.Author.Rules.{rules}
use Rattle.register_form_view.proofs.ranks.rank_of.Goals as goal

pub returns-then-uses-lt24 : goal.returns-then-uses-lt24
returns-then-uses-lt24 c = search (ordering, rules)

pub returns : goal.returns
returns c = search (ordering, rules)
