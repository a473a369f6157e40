use Rattle.program_listing.proofs.Appending.{digits}
use borrow.Author.Rules.{rules}
use Rattle.program_listing.proofs.parts.put_decimal.Goals as goal

pub returns-then-n-lt10 : goal.returns-then-n-lt10
returns-then-n-lt10 c = search (digits, rules)

pub returns-then-n-lt100 : goal.returns-then-n-lt100
returns-then-n-lt100 c = search (digits, rules)

pub returns : goal.returns
returns c = search (digits, rules)
