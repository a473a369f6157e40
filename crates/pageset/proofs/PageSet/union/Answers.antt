use Rattle.pageset.proofs.Laws.{marks_either}
use Rattle.pageset.proofs.PageSet.union.Goals as goal

pub returns : goal.returns
returns c = marks_either c.args.self.words c.args.other.words
