use borrow.Author.Rules.{rules}
use Rattle.values.proofs.Digits.{lengths}
use Rattle.values.proofs.numbers.few_digits.Goals as goal

pub returns-in-0-to-9 : goal.returns-in-0-to-9
returns-in-0-to-9 c = search (lengths, rules)

pub returns-in-10-to-99 : goal.returns-in-10-to-99
returns-in-10-to-99 c = search (lengths, rules)

pub returns-in-100-to-999 : goal.returns-in-100-to-999
returns-in-100-to-999 c = search (lengths, rules)

pub returns-in_default : goal.returns-in_default
returns-in_default c = search (lengths, rules)
