use mathlib.Core.Path.{refl}
use Rattle.values.proofs.is_sized.Goals as goal

pub returns : goal.returns
returns c = refl
