use Rattle.buffer.proofs.Written.{puts}
use borrow.Author.Rules.{rules}
use Rattle.buffer.proofs.put_two.Goals as goal

pub returns-then-h-at : goal.returns-then-h-at
returns-then-h-at c = search (puts, rules)

pub returns : goal.returns
returns c = search (puts, rules)
