use mathlib.Core.Path.{◌∙◌}
use Rattle.text.proofs.Library.{contains_any}
use Rattle.text.proofs.one_of.Goals as goal

pub returns : goal.returns
returns c = c.contains.ensures.value ∙ contains_any _ _
