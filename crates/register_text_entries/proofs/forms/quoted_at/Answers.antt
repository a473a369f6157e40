use Rattle.register_text_entries.proofs.Ways.{quotes}
use Rattle.register_text_entries.proofs.forms.quoted_at.Goals as goal

pub returns-in_err-start : goal.returns-in_err-start
returns-in_err-start c = let gone = c.in_err-start.was in rw c.from_residual.ensures (search quotes)

pub returns-in_err-next : goal.returns-in_err-next
returns-in_err-next c = let a = c.in_ok-start.was in let gone = c.in_err-next.was in rw c.from_residual-in_err-next.ensures (search quotes)

pub returns : goal.returns
returns c = let a = c.in_ok-start.was in let b = c.in_ok-next.was in search quotes
