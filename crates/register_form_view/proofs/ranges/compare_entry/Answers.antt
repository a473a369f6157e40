use Rattle.register_form_view.proofs.Searching.{searching}
use borrow.Author.Rules.{rules}
use Rattle.register_form_view.proofs.ranges.compare_entry.Goals as goal

pub returns-in-Names : goal.returns-in-Names
returns-in-Names c = search (searching, rules)

pub returns-in-Texts : goal.returns-in-Texts
returns-in-Texts c = search (searching, rules)

pub returns-in-Terms : goal.returns-in-Terms
returns-in-Terms c = search (searching, rules)
