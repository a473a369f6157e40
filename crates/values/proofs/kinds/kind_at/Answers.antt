use borrow.Author.Rules.{rules}
use Rattle.values.proofs.AllKinds.{finding}
use Rattle.values.proofs.kinds.kind_at.Goals as goal

pub returns-then-word_at : goal.returns-then-word_at
returns-then-word_at c = search (finding, rules)

pub returns-then-word_at-2 : goal.returns-then-word_at-2
returns-then-word_at-2 c = search (finding, rules)

pub returns-then-word_at-3 : goal.returns-then-word_at-3
returns-then-word_at-3 c = search (finding, rules)

pub returns : goal.returns
returns c = search (finding, rules)
