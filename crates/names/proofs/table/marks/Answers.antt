use mathlib.Core.Path.{refl}
use Rattle.names.specs.Table.{table}
use Rattle.names.specs.Steps.{marks}
use Rattle.names.proofs.table.marks.Goals as goal

-- src/table.rt:29:1
pub returns : goal.returns
unfolding marks table
returns c = refl
