use Rattle.pageset.proofs.Laws.{bit_fits}
use Rattle.pageset.proofs.bit_of.Goals as goal

pub returns : goal.returns
returns c = bit_fits c.args.page
