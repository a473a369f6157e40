use Rattle.register_form_view.proofs.Names.{naming}
use borrow.Author.Rules.{rules}
use Rattle.register_form_view.proofs.kind_of.Goals as goal

pub returns-then-p-property_count : goal.returns-then-p-property_count
returns-then-p-property_count c = search (naming, rules)

pub returns : goal.returns
returns c = search (naming, rules)
