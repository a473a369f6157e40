use Rattle.query_core.proofs.Ways.{ways}
use Rattle.query_core.proofs.reading.article_from.Goals as goal

pub returns-in_err-c : goal.returns-in_err-c
returns-in_err-c c = let n = c.in_err-c.was in rw c.from_residual.ensures (search ways)

pub returns : goal.returns
returns c = let n = c.in_ok-c.was in search ways
