use Rattle.query_core_emit.proofs.References.{emission}
use borrow.Author.Rules.{rules}
use Rattle.query_core_emit.proofs.writing.put_constant.Goals as goal

pub returns-in_err-k : goal.returns-in_err-k
returns-in_err-k c = let n = c.in_err-k.was in rw c.from_residual.ensures (search (emission, rules))

pub returns : goal.returns
returns c = let n = c.in_ok-k.was in search (emission, rules)
