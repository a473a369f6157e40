use Rattle.register_form_view.proofs.Searching.{searching}
use borrow.Author.Rules.{rules}
use Rattle.register_form_view.proofs.ranges.binary_search.Goals as goal

pub returns-then-entry_count-m : goal.returns-then-entry_count-m
returns-then-entry_count-m c = search (searching, rules)

pub returns : goal.returns
returns c = search (searching, rules)
