use Rattle.program_listing.proofs.Answering.{zeros_room, core_refused, core_marked}
use Rattle.program_listing.proofs.answer_core.Goals as goal

pub returns-in-Ok : goal.returns-in-Ok
returns-in-Ok c = core_marked _ _ _ _ _ (zeros_room 256) c.ask.ensures _ _ _ _ c.in-Ok.is c.put_list.ensures

pub returns-in-Err : goal.returns-in-Err
returns-in-Err c = core_refused _ _ _ _ _ (zeros_room 256) c.ask.ensures _ _ _ _ c.in-Err.is c.put_number.ensures
