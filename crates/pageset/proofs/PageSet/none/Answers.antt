use Rattle.pageset.proofs.Laws.{marks_none}
use Rattle.pageset.proofs.PageSet.none.Goals as goal

pub returns : goal.returns
returns c = marks_none
