use mathlib.Core.Path.{◌∙◌}
use Rattle.register_text_entries.proofs.table.put.Goals as goal

pub returns : goal.returns
returns c = c.put.ensures ∙ rw c.narrow.ensures
