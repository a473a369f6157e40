use Rattle.values.proofs.Laws.{names}
use Rattle.values.proofs.split_reference.Goals as goal

pub returns-then-colon-s : goal.returns-then-colon-s
returns-then-colon-s c = search names

pub returns : goal.returns
returns c = search names
