use mathlib.Core.Path.{refl}
use Rattle.names.specs.Table.{table}
use Rattle.names.specs.Steps.{composed_letters}
use Rattle.names.proofs.table.codes.Goals as goal

-- src/table.rt:35:1
pub returns : goal.returns
unfolding composed_letters table
returns c = refl
