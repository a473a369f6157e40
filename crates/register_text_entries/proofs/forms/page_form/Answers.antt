use Rattle.register_text_entries.proofs.Ways.{forms, page_3}
use Rattle.register_text_entries.proofs.forms.page_form.Goals as goal

pub returns-in_err-first : goal.returns-in_err-first
returns-in_err-first c = let gone = c.in_err-first.was in rw c.from_residual.ensures (search forms)

pub returns-in_err-second : goal.returns-in_err-second
returns-in_err-second c = let a = c.in_ok-first.was in let gone = c.in_err-second.was in rw c.from_residual-in_err-second.ensures (search forms)

pub returns : goal.returns
returns c = page_3 _ _ _ c.framed_at.ensures _ c.in_ok-first.was _ c.quoted_at.ensures _ c.in_ok-second.was
