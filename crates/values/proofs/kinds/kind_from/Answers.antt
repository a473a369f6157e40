use borrow.Author.Rules.{rules}
use Rattle.values.proofs.EachKind.{bytes_of}
use Rattle.values.proofs.kinds.kind_from.Goals as goal

pub returns-in-0 : goal.returns-in-0
returns-in-0 c = search (bytes_of, rules)

pub returns-in-1 : goal.returns-in-1
returns-in-1 c = search (bytes_of, rules)

pub returns-in-2 : goal.returns-in-2
returns-in-2 c = search (bytes_of, rules)

pub returns-in_default : goal.returns-in_default
returns-in_default c = search (bytes_of, rules)
