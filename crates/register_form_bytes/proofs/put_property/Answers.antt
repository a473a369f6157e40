use Rattle.register_form_bytes.proofs.Written.{puts}
use borrow.Author.Rules.{rules}
use Rattle.register_form_bytes.proofs.put_property.Goals as goal

pub returns-then-h-at : goal.returns-then-h-at
returns-then-h-at c = search (puts, rules)

pub returns : goal.returns
returns c = search (puts, rules)
