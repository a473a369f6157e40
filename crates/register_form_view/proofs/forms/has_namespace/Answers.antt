use Rattle.register_form_view.proofs.Looking.{meaning}
use borrow.Author.Rules.{rules}
use Rattle.register_form_view.proofs.forms.has_namespace.Goals as goal

pub returns-in-Some : goal.returns-in-Some
returns-in-Some c = search (meaning, rules)

pub returns-in-None : goal.returns-in-None
returns-in-None c = search (meaning, rules)
