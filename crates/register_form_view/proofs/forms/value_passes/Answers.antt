use Rattle.register_form_view.proofs.Looking.{meaning}
use borrow.Author.Rules.{rules}
use Rattle.register_form_view.proofs.forms.value_passes.Goals as goal

pub returns-in-Constant : goal.returns-in-Constant
returns-in-Constant c = search (meaning, rules)

pub returns-in-Reference : goal.returns-in-Reference
returns-in-Reference c = search (meaning, rules)
