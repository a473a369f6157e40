use Rattle.pageset.proofs.Laws.{marks_both}
use Rattle.pageset.proofs.PageSet.intersection.Goals as goal

pub returns : goal.returns
returns c = marks_both c.args.self.words c.args.other.words
