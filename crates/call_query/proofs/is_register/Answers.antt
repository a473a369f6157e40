use Rattle.call_query.proofs.Ways.{opened_is}
use borrow.Author.Rules.{rules}
use Rattle.call_query.proofs.is_register.Goals as goal

pub returns : goal.returns
returns c = search (opened_is, rules)
