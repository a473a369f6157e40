use Rattle.register_form_view.proofs.Holding.{naming-pages}
use borrow.Author.Rules.{rules}
use Rattle.register_form_view.proofs.pages.name_passes.Goals as goal

pub returns-in-Namespace : goal.returns-in-Namespace
returns-in-Namespace c = search (naming-pages, rules)

pub returns-then-n-rank : goal.returns-then-n-rank
returns-then-n-rank c = search (naming-pages, rules)

pub returns-else-n-rank : goal.returns-else-n-rank
returns-else-n-rank c = search (naming-pages, rules)
