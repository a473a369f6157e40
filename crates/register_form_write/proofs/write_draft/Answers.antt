use mathlib.Core.Path.{refl}
use Rattle.register_form_write.proofs.Closing.{draft_written}
use Rattle.register_form_write.proofs.write_draft.Goals as goal

pub returns : goal.returns
returns c = draft_written _ _ _ _ _ _ _ _ _ c.number-count.ensures refl c.write_numbered.ensures
