use mathlib.Core.Bool.{or-false}
use lib.Dec.{eqb}
use Rattle.text.specs.Bytes.{any}
use Rattle.text.proofs.is_mark.Goals as goal

pub returns : goal.returns
unfolding any
returns c = rw (or-false (eqb c.args.b 62))
