use mathlib.Core.Path.{◌∙◌}
use Rattle.register_form_view.proofs.ranks.compare_name.Goals as goal

pub returns : goal.returns
returns c = c.compare.ensures ∙ rw c.name_at.ensures
