use mathlib.Core.Path.{refl}
use Rattle.text.specs.Table.{tabulate}
use Rattle.names.specs.Table.{table}
use Rattle.names.specs.Steps.{places, place}
use Rattle.names.proofs.table.places.Goals as goal

-- src/table.rt:17:1
pub returns : goal.returns
unfolding places place table tabulate
returns c = refl
