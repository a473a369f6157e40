use Rattle.values.proofs.Days.{calendar}
use borrow.Author.Rules.{rules}
use Rattle.values.proofs.dates.is_day.Goals as goal

pub returns : goal.returns
returns c = search (calendar, rules)
