use Rattle.values.proofs.Laws.{names}
use Rattle.values.proofs.is_value.Goals as goal

pub returns : goal.returns
returns c = search names
