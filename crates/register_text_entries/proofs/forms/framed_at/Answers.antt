use Rattle.register_text_entries.proofs.Ways.{frames, frame_stands}
use Rattle.register_text_entries.proofs.forms.framed_at.Goals as goal

pub returns-in_err-start : goal.returns-in_err-start
returns-in_err-start c = let gone = c.in_err-start.was in rw c.from_residual.ensures (search frames)

pub returns-in_err-text : goal.returns-in_err-text
returns-in_err-text c = let a = c.in_ok-start.was in let gone = c.in_err-text.was in rw c.from_residual-in_err-text.ensures (search frames)

pub returns-in_err-next : goal.returns-in_err-next
returns-in_err-next c = let a = c.in_ok-start.was in let b = c.in_ok-text.was in let gone = c.in_err-next.was in rw c.from_residual-in_err-next.ensures (search frames)

pub returns : goal.returns
returns c = frame_stands _ _ _ _ _ c.after_word.ensures _ c.in_ok-start.was _ c.quoted_at.ensures _ c.in_ok-text.was _ c.after_word-2.ensures _ c.in_ok-next.was
