use mathlib.Core.Path.{refl}
use Rattle.names.specs.Table.{table}
use Rattle.names.specs.Steps.{letters}
use Rattle.names.proofs.table.letters.Goals as goal

-- src/table.rt:23:1
pub returns : goal.returns
unfolding letters table
returns c = refl
