use Rattle.buffer.proofs.Reading.{reading}
use borrow.Author.Rules.{rules}
use Rattle.buffer.proofs.eight_at.Goals as goal

pub returns-then-h-i : goal.returns-then-h-i
returns-then-h-i c = search (reading, rules)

pub returns : goal.returns
returns c = search (reading, rules)
