use Rattle.names.proofs.Naming.{composed_told}
use Rattle.names.proofs.is_composed_name.Goals as goal

-- src/lib.rt:158:1
pub returns : goal.returns
returns c = composed_told _ _ c.has_name_shape.ensures _ c.is_own_form.ensures
