use Rattle.query_core_fit.proofs.Singles.{wraps_other, wrapping}
use borrow.Author.Rules.{rules}
use Rattle.query_core_fit.proofs.leaves.put_subquery.Goals as goal

pub returns-in_err-kind : goal.returns-in_err-kind
returns-in_err-kind c = let n = c.in_err-kind.was in rw c.from_residual.ensures (search (wrapping, rules))

pub returns-in-Scalar : goal.returns-in-Scalar
returns-in-Scalar c = wraps_other _ _ c.args.held.now c.args.at _ c.in_ok-kind.was c.in-Scalar.is
