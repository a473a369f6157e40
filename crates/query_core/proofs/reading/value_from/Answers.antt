use Rattle.query_core.proofs.Ways.{ways}
use Rattle.query_core.proofs.reading.value_from.Goals as goal

pub returns-in_err-c : goal.returns-in_err-c
returns-in_err-c c = let n = c.in_err-c.was in rw c.from_residual.ensures (search ways)

pub returns-in_err-k : goal.returns-in_err-k
returns-in_err-k c = let m = c.in_ok-c.was in let n = c.in_err-k.was in rw c.from_residual-in_err-k.ensures (search ways)

pub returns : goal.returns
returns c = let m = c.in_ok-c.was in let n = c.in_ok-k.was in search ways
