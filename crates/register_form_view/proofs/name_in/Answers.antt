use Rattle.register_form_view.proofs.Names.{naming}
use borrow.Author.Rules.{rules}
use Rattle.register_form_view.proofs.name_in.Goals as goal

pub returns-then-x-text_count : goal.returns-then-x-text_count
returns-then-x-text_count c = search (naming, rules)

pub returns : goal.returns
returns c = search (naming, rules)
