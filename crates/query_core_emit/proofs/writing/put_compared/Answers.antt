use Rattle.query_core_emit.proofs.References.{comparisons}
use borrow.Author.Rules.{rules}
use Rattle.query_core_emit.proofs.writing.put_compared.Goals as goal

pub returns-then-or_equal : goal.returns-then-or_equal
returns-then-or_equal c = search (comparisons, rules)

pub returns-else-or_equal : goal.returns-else-or_equal
returns-else-or_equal c = search (comparisons, rules)
