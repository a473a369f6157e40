use Rattle.register_join_draft.proofs.Ways.{drafting}
use borrow.Author.Rules.{rules}
use Rattle.register_join_draft.proofs.enter.Goals as goal

pub returns-then-get_or-ne0 : goal.returns-then-get_or-ne0
returns-then-get_or-ne0 c = search (drafting, rules)

pub returns : goal.returns
returns c = search (drafting, rules)
