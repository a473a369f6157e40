use Rattle.query_text_pieces.proofs.Laws.{ways}
use Rattle.query_text_pieces.proofs.inner_end.Goals as goal

pub returns-in_err-i : goal.returns-in_err-i
returns-in_err-i c = let n = c.in_err-i.was in rw c.from_residual.ensures (search ways)

pub returns : goal.returns
returns c = let n = c.in_ok-i.was in search ways
