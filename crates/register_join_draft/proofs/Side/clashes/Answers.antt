use Rattle.register_join_draft.proofs.Clashing.{clashing}
use borrow.Author.Rules.{rules}
use Rattle.register_join_draft.proofs.Side.clashes.Goals as goal

pub returns-then-place-eq0 : goal.returns-then-place-eq0
returns-then-place-eq0 c = search (clashing, rules)

pub returns : goal.returns
returns c = search (clashing, rules)
