use Rattle.register_form_view.proofs.Looking.{meaning}
use borrow.Author.Rules.{rules}
use Rattle.register_form_view.proofs.forms.link_meant.Goals as goal

pub returns-then-article_stands : goal.returns-then-article_stands
returns-then-article_stands c = search (meaning, rules)

pub returns-else-article_stands : goal.returns-else-article_stands
returns-else-article_stands c = search (meaning, rules)

pub returns-in-Scalar : goal.returns-in-Scalar
returns-in-Scalar c = search (meaning, rules)

pub returns-in-String : goal.returns-in-String
returns-in-String c = search (meaning, rules)
