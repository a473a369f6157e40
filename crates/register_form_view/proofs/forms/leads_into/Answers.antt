use borrow.Author.Rules.{rules}
use Rattle.register_form_view.proofs.Looking.{passing}
use Rattle.register_form_view.proofs.forms.leads_into.Goals as goal

pub returns-in-Page : goal.returns-in-Page
returns-in-Page c = search (passing, rules)
