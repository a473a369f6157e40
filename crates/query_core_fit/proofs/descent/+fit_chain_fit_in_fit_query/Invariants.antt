use Prim.Native.Nat.{◌+◌, ◌*◌}
use Rattle.query_core_fit.proofs.descent.+fit_chain_fit_in_fit_query.Given as goal

abbrev pub decreases-fit_chain : goal.decreases-fit_chain
decreases-fit_chain l = 2 * l.i

abbrev pub decreases-fit_in : goal.decreases-fit_in
decreases-fit_in l = 2 * l.i

abbrev pub decreases-fit_query : goal.decreases-fit_query
decreases-fit_query l = 2 * l.i + 1
