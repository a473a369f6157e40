use Rattle.program_listing.proofs.Answering.{zeros_room, answer_refused, answer_held}
use Rattle.program_listing.proofs.answer.Goals as goal

pub returns-in-Ok : goal.returns-in-Ok
returns-in-Ok c = answer_held _ _ _ _ _ (zeros_room 63628) c.register.ensures _ _ _ _ c.in-Ok.is c.answer_text.ensures

pub returns-in-Err : goal.returns-in-Err
returns-in-Err c = answer_refused _ _ _ _ _ (zeros_room 63628) c.register.ensures _ _ _ _ c.in-Err.is c.put_number.ensures
