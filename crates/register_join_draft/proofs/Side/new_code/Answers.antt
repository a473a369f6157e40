use borrow.Author.Rules.{rules}
use Rattle.register_join_draft.proofs.Ways.{drafting}
use Rattle.register_join_draft.proofs.Side.new_code.Goals as goal

pub returns-then-g-eq0 : goal.returns-then-g-eq0
returns-then-g-eq0 c = search (drafting, rules)

pub returns-in-Page : goal.returns-in-Page
returns-in-Page c = search (drafting, rules)

pub returns-in-Scalar : goal.returns-in-Scalar
returns-in-Scalar c = search (drafting, rules)
