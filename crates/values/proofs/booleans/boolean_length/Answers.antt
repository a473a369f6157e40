use borrow.Author.Rules.{rules}
use Rattle.values.proofs.Coded.{truths}
use Rattle.values.proofs.booleans.boolean_length.Goals as goal

pub returns-then-c-eq1 : goal.returns-then-c-eq1
returns-then-c-eq1 c = search (truths, rules)

pub returns-else-c-eq1 : goal.returns-else-c-eq1
returns-else-c-eq1 c = search (truths, rules)
