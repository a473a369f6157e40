use Rattle.query_core.proofs.Ways.{constants}
use borrow.Author.Rules.{rules}
use Rattle.query_core.proofs.reading.constant_from.Goals as goal

pub returns-then-kind-ge-KIND_COUNT : goal.returns-then-kind-ge-KIND_COUNT
returns-then-kind-ge-KIND_COUNT c = search (constants, rules)

pub returns-in-Page : goal.returns-in-Page
returns-in-Page c = search (constants, rules)

pub returns-in-Scalar : goal.returns-in-Scalar
returns-in-Scalar c = search (constants, rules)

pub returns-in-String : goal.returns-in-String
returns-in-String c = search (constants, rules)
