use borrow.Author.Rules.{rules}
use Rattle.values.proofs.Days.{calendar}
use Rattle.values.proofs.dates.days_in.Goals as goal

pub returns-in-2 : goal.returns-in-2
returns-in-2 c = search (calendar, rules)

pub returns-in-2-2 : goal.returns-in-2-2
returns-in-2-2 c = search (calendar, rules)

pub returns-in-4 : goal.returns-in-4
returns-in-4 c = search (calendar, rules)

pub returns-in_default : goal.returns-in_default
returns-in_default c = search (calendar, rules)
