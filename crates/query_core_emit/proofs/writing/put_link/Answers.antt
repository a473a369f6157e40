use Rattle.query_core_emit.proofs.References.{emission}
use borrow.Author.Rules.{rules}
use Rattle.query_core_emit.proofs.writing.put_link.Goals as goal

pub returns-then-not-is_reference : goal.returns-then-not-is_reference
returns-then-not-is_reference c = search (emission, rules)

pub returns : goal.returns
returns c = search (emission, rules)
