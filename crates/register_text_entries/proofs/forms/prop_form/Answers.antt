use Rattle.register_text_entries.proofs.Ways.{forms, prop_4}
use Rattle.register_text_entries.proofs.forms.prop_form.Goals as goal

pub returns-in_err-first : goal.returns-in_err-first
returns-in_err-first c = let gone = c.in_err-first.was in rw c.from_residual.ensures (search forms)

pub returns-in_err-kind : goal.returns-in_err-kind
returns-in_err-kind c = let a = c.in_ok-first.was in let gone = c.in_err-kind.was in rw c.from_residual-in_err-kind.ensures (search forms)

pub returns-in_err-next : goal.returns-in_err-next
returns-in_err-next c = let a = c.in_ok-first.was in let b = c.in_ok-kind.was in let gone = c.in_err-next.was in rw c.from_residual-in_err-next.ensures (search forms)

pub returns : goal.returns
returns c = prop_4 _ _ _ c.framed_at.ensures _ c.in_ok-first.was _ c.kind_word.ensures _ c.in_ok-kind.was _ c.after_word.ensures _ c.in_ok-next.was
