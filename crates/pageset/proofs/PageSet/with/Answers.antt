use Rattle.pageset.proofs.Laws.{marks_with}
use Rattle.pageset.proofs.PageSet.with.Goals as goal

pub returns : goal.returns
returns c = marks_with c.args.self.words c.args.page _ _ _ _ _ c.bit_of-b.ensures c.only_if.ensures c.only_if-2.ensures c.only_if-3.ensures c.only_if-4.ensures
