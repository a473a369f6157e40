use Rattle.register_text_entries.proofs.Ways.{forms, cat_2}
use Rattle.register_text_entries.proofs.forms.cat_form.Goals as goal

pub returns-in_err-first : goal.returns-in_err-first
returns-in_err-first c = let gone = c.in_err-first.was in rw c.from_residual.ensures (search forms)

pub returns : goal.returns
returns c = cat_2 _ _ _ c.framed_at.ensures _ c.in_ok-first.was
