use Rattle.register_form_view.proofs.Names.{naming}
use borrow.Author.Rules.{rules}
use Rattle.register_form_view.proofs.article_at.Goals as goal

pub returns-then-i-page_count : goal.returns-then-i-page_count
returns-then-i-page_count c = search (naming, rules)

pub returns : goal.returns
returns c = search (naming, rules)
