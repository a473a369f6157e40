use Rattle.register_join_draft.proofs.Ways.{drafting}
use borrow.Author.Rules.{rules}
use Rattle.register_join_draft.proofs.Side.put_term.Goals as goal

pub returns : goal.returns
returns c = search (drafting, rules)
