use Rattle.program_listing.proofs.Answering.{zeros_room, text_refused, text_core}
use Rattle.program_listing.proofs.answer_text.Goals as goal

pub returns-in-Ok : goal.returns-in-Ok
returns-in-Ok c = text_core _ _ _ _ _ (zeros_room 29794) c.query.ensures _ _ _ _ c.in-Ok.is c.answer_core.ensures

pub returns-in-Err : goal.returns-in-Err
returns-in-Err c = text_refused _ _ _ _ _ (zeros_room 29794) c.query.ensures _ _ _ _ c.in-Err.is c.put_number.ensures
