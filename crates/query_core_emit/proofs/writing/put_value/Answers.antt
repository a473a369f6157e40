use Rattle.query_core_emit.proofs.References.{emission}
use borrow.Author.Rules.{rules}
use Rattle.query_core_emit.proofs.writing.put_value.Goals as goal

pub returns-in-Page : goal.returns-in-Page
returns-in-Page c = search (emission, rules)

pub returns-in-Scalar : goal.returns-in-Scalar
returns-in-Scalar c = search (emission, rules)

pub returns-in-String : goal.returns-in-String
returns-in-String c = search (emission, rules)
