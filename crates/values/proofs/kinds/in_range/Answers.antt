use borrow.Author.Rules.{rules}
use Rattle.values.proofs.AllKinds.{range_is}
use Rattle.values.proofs.kinds.in_range.Goals as goal

pub returns : goal.returns
returns c = search (range_is, rules)
