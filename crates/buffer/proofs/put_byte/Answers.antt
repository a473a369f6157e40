use Rattle.buffer.proofs.Written.{puts}
use borrow.Author.Rules.{rules}
use Rattle.buffer.proofs.put_byte.Goals as goal

pub returns-then-at-h : goal.returns-then-at-h
returns-then-at-h c = search (puts, rules)

pub returns-else-at-h : goal.returns-else-at-h
returns-else-at-h c = search (puts, rules)
