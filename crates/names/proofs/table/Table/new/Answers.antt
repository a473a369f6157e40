use mathlib.Core.Path.{refl}
use Rattle.text.specs.Table.{tabulate}
use Rattle.names.specs.Table.{table}
use Rattle.names.specs.Steps.{places, place, letters, marks, composed_letters}
use Rattle.names.proofs.table.Table.new.Goals as goal

-- src/table.rt:26:5
pub invariant_of-result : goal.invariant_of-result
unfolding places place letters marks composed_letters table tabulate
invariant_of-result c = record { is = (refl, refl, refl, refl) }
