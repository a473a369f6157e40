use Rattle.values.proofs.Laws.{names}
use Rattle.values.proofs.is_reference.Goals as goal

pub returns-in-Some : goal.returns-in-Some
returns-in-Some c = search names

pub returns-in-None : goal.returns-in-None
returns-in-None c = search names
