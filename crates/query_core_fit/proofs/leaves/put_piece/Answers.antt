use Rattle.query_core_fit.proofs.Singles.{piece_none}
use borrow.Author.Rules.{rules}
use Rattle.query_core_fit.proofs.leaves.put_piece.Goals as goal

pub returns-in_err-kind : goal.returns-in_err-kind
returns-in_err-kind c = let n = c.in_err-kind.was in rw c.from_residual.ensures (search (piece_none, rules))
