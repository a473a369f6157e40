use Rattle.register_form_bytes.proofs.Written.{puts}
use borrow.Author.Rules.{rules}
use Rattle.register_form_bytes.proofs.put_counts.Goals as goal

pub returns : goal.returns
returns c = search (puts, rules)
