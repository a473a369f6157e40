use Rattle.values.proofs.Days.{days}
use borrow.Author.Rules.{rules}
use Rattle.values.proofs.dates.read_date.Goals as goal

pub returns-then-s-get_or : goal.returns-then-s-get_or
returns-then-s-get_or c = search (days, rules)

pub returns-else-s-get_or : goal.returns-else-s-get_or
returns-else-s-get_or c = search (days, rules)
