use Rattle.register_form_view.proofs.Searching.{searching}
use borrow.Author.Rules.{rules}
use Rattle.register_form_view.proofs.ranges.compare_plain.Goals as goal

pub returns-then-is_empty : goal.returns-then-is_empty
returns-then-is_empty c = search (searching, rules)

pub returns-then-get_or-gt0 : goal.returns-then-get_or-gt0
returns-then-get_or-gt0 c = search (searching, rules)

pub returns : goal.returns
returns c = search (searching, rules)
