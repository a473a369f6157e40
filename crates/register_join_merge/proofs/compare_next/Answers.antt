use Rattle.register_join_merge.proofs.Ways.{merging}
use borrow.Author.Rules.{rules}
use Rattle.register_join_merge.proofs.compare_next.Goals as goal

pub returns-then-text_count-j : goal.returns-then-text_count-j
returns-then-text_count-j c = search (merging, rules)

pub returns-then-text_count-i : goal.returns-then-text_count-i
returns-then-text_count-i c = search (merging, rules)

pub returns : goal.returns
returns c = search (merging, rules)
