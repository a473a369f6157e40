use Rattle.register_form_view.proofs.Looking.{meaning}
use borrow.Author.Rules.{rules}
use Rattle.register_form_view.proofs.forms.article_stands.Goals as goal

pub returns-then-n-rank : goal.returns-then-n-rank
returns-then-n-rank c = search (meaning, rules)

pub returns-else-n-rank : goal.returns-else-n-rank
returns-else-n-rank c = search (meaning, rules)
