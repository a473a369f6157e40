use mathlib.Core.List.{[], ◌∷◌}
use Rattle.register_text_verdict.proofs.Judging.{handed, typed_unruled, typed_ruled}
use Rattle.register_text_verdict.proofs.judge_typed.Goals as goal

pub returns-in_err-n : goal.returns-in_err-n
returns-in_err-n c = λ room. rw (handed _ _ c.from_residual.ensures) (rw c.in_err-n.was at (c.read_rows.ensures room))

pub returns-then-some_row : goal.returns-then-some_row
returns-then-some_row c = λ room. typed_unruled _ _ _ (rw c.in_ok-n.was at (c.read_rows.ensures room)) (0 ∷ []) _ c.some_row.ensures c.if-some_row.true

pub returns : goal.returns
returns c = λ room. typed_ruled _ _ _ (rw c.in_ok-n.was at (c.read_rows.ensures room)) (0 ∷ []) _ c.some_row.ensures c.if-some_row.false
