use Rattle.vetxarno.proofs.Numbers.{refusal_returns, marks_return}
use Rattle.vetxarno.proofs.vetxarno_ask.Goals as goal

pub returns-in-Ok : goal.returns-in-Ok
returns-in-Ok c = marks_return _ _ _ _ _ c.ask.ensures _ c.in-Ok.is _ c.count_of.ensures

pub returns-in-Err : goal.returns-in-Err
returns-in-Err c = refusal_returns _ _ _ _ _ c.ask.ensures _ c.in-Err.is _ c.negative.ensures
