use borrow.Author.Rules.{rules}
use Rattle.call_query.proofs.Ways.{fitting, handed, into_refused, into_short}
use Rattle.call_query.proofs.fit_into.Goals as goal

pub returns-in_err-fit_tree : goal.returns-in_err-fit_tree
returns-in_err-fit_tree c = rw (handed _ _ c.from_residual.ensures) (into_refused _ _ _ _ _ c.fit_tree.ensures _ c.in_err-fit_tree.was)

pub returns-then-held-lt-QUERY_BYTES : goal.returns-then-held-lt-QUERY_BYTES
returns-then-held-lt-QUERY_BYTES c = into_short _ _ _ _ _ c.fit_tree.ensures _ c.in_ok-fit_tree.was c.if-held-lt-QUERY_BYTES.true

pub returns : goal.returns
returns c = let n = c.in_ok-fit_tree.was in search (fitting, rules)
