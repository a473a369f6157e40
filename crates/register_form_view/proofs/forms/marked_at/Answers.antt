use Rattle.register_form_view.proofs.Looking.{passing}
use borrow.Author.Rules.{rules}
use Rattle.register_form_view.proofs.forms.marked_at.Goals as goal

pub returns : goal.returns
returns c = search (passing, rules)
