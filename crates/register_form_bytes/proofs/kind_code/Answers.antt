use borrow.Author.Rules.{rules}
use Rattle.register_form_bytes.proofs.Written.{puts}
use Rattle.register_form_bytes.proofs.kind_code.Goals as goal

pub returns-then-b-lt3 : goal.returns-then-b-lt3
returns-then-b-lt3 c = search (puts, rules)

pub returns-else-b-lt3 : goal.returns-else-b-lt3
returns-else-b-lt3 c = search (puts, rules)
