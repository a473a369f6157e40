use borrow.Author.Rules.{rules}
use Rattle.values.proofs.EachKind.{by_scalar}
use Rattle.values.proofs.kinds.scalar_length.Goals as goal

pub returns-in-Number : goal.returns-in-Number
returns-in-Number c = search (by_scalar, rules)

pub returns-in-Boolean : goal.returns-in-Boolean
returns-in-Boolean c = search (by_scalar, rules)
