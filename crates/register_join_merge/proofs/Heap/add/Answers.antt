use Rattle.register_join_merge.proofs.Ways.{merging}
use borrow.Author.Rules.{rules}
use Rattle.register_join_merge.proofs.Heap.add.Goals as goal

pub returns-clause-added : goal.returns-clause-added
returns-clause-added c = search (merging, rules)
