use mathlib.Core.Path.{◌∙◌}
use Rattle.call_ask.proofs.Calls.{selected_by}
use Rattle.call_ask.proofs.select.Goals as goal

pub returns : goal.returns
returns c = selected_by _ _ _ _ _ (c.from-n.ensures ∙ c.two_at.ensures) c.eval-found.ensures
