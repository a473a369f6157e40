use Rattle.register_join_draft.proofs.Ways.{drafting}
use borrow.Author.Rules.{rules}
use Rattle.register_join_draft.proofs.Side.new_group.Goals as goal

pub returns-then-g-eq0 : goal.returns-then-g-eq0
returns-then-g-eq0 c = search (drafting, rules)

pub returns : goal.returns
returns c = search (drafting, rules)
