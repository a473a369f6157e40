use Rattle.register_form_view.proofs.Looking.{forms_cut}
use borrow.Author.Rules.{rules}
use Rattle.register_form_view.proofs.forms.forms_between.Goals as goal

pub returns : goal.returns
returns c = search (forms_cut, rules)
