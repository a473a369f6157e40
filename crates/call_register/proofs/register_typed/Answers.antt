use Rattle.call_register.proofs.Calls.{composed_refused, composed_registered}
use Rattle.call_register.proofs.register_typed.Goals as goal

pub returns-then-compose : goal.returns-then-compose
returns-then-compose c = composed_refused _ _ _ _ _ _ _ c.compose.ensures c.if-compose.true

pub returns : goal.returns
returns c = composed_registered _ _ _ _ _ _ _ c.compose.ensures c.if-compose.false _ _ c.register_rows.ensures
