use borrow.Author.Rules.{rules}
use Rattle.values.proofs.Digits.{lengths}
use Rattle.values.proofs.numbers.fraction_length.Goals as goal

pub returns-then-n-eq0 : goal.returns-then-n-eq0
returns-then-n-eq0 c = search (lengths, rules)

pub returns-then-n-eq0-2 : goal.returns-then-n-eq0-2
returns-then-n-eq0-2 c = search (lengths, rules)

pub returns-then-n-eq0-3 : goal.returns-then-n-eq0-3
returns-then-n-eq0-3 c = search (lengths, rules)

pub returns-else-n-eq0-3 : goal.returns-else-n-eq0-3
returns-else-n-eq0-3 c = search (lengths, rules)
