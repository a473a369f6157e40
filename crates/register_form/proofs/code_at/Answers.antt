use Rattle.register_form.proofs.Ways.{code_is}
use borrow.Author.Rules.{rules}
use Rattle.register_form.proofs.code_at.Goals as goal

pub returns : goal.returns
returns c = search (code_is, rules)
