use Rattle.register_join_merge.proofs.Ways.{merging}
use borrow.Author.Rules.{rules}
use Rattle.register_join_merge.proofs.note.Goals as goal

pub returns-then-taken : goal.returns-then-taken
returns-then-taken c = search (merging, rules)

pub returns : goal.returns
returns c = search (merging, rules)
