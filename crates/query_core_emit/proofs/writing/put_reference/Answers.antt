use Rattle.query_core_emit.proofs.References.{references}
use borrow.Author.Rules.{rules}
use Rattle.query_core_emit.proofs.writing.put_reference.Goals as goal

pub returns-in-None : goal.returns-in-None
returns-in-None c = search (references, rules)

pub returns-in-Some : goal.returns-in-Some
returns-in-Some c = search (references, rules)
