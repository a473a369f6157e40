use Rattle.register_text_entries.proofs.Ways.{forms}
use Rattle.register_text_entries.proofs.forms.closing_form.Goals as goal

pub returns-in_err-next : goal.returns-in_err-next
returns-in_err-next c = let gone = c.in_err-next.was in rw c.from_residual.ensures (search forms)

pub returns : goal.returns
returns c = let a = c.in_ok-next.was in search forms
