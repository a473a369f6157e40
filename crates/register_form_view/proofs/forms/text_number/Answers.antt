use Rattle.register_form_view.proofs.Looking.{standing}
use borrow.Author.Rules.{rules}
use Rattle.register_form_view.proofs.forms.text_number.Goals as goal

pub returns : goal.returns
returns c = search (standing, rules)
