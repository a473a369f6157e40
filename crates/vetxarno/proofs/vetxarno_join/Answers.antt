use Rattle.vetxarno.proofs.Numbers.{call_returns}
use Rattle.vetxarno.proofs.vetxarno_join.Goals as goal

pub returns : goal.returns
returns c = record { number = call_returns _ _ _ _ c.join.ensures _ c.returned.ensures; buffer = c.join.ensures.bytes }
