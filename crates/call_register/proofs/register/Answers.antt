use Rattle.register_text_verdict.proofs.Judging.{handed}
use Rattle.call_register.proofs.Calls.{typed_refused, ascii_registered, read_refused, read_registered}
use Rattle.call_register.proofs.register.Goals as goal

pub returns-in_err-n : goal.returns-in_err-n
returns-in_err-n c = rw (handed _ _ c.from_residual.ensures) (typed_refused _ _ _ c.judge_typed.ensures _ _ c.in_err-n.was)

pub returns-then-is_ascii : goal.returns-then-is_ascii
returns-then-is_ascii c = ascii_registered _ _ _ c.judge_typed.ensures _ _ c.in_ok-n.was _ _ _ c.is_ascii.ensures c.if-is_ascii.true c.register_rows.ensures

pub returns-in_err-n-2 : goal.returns-in_err-n-2
returns-in_err-n-2 c = rw (handed _ _ c.from_residual-in_err-n-2.ensures) (read_refused _ _ _ c.read_rows.ensures _ _ c.in_err-n-2.was)

pub returns : goal.returns
returns c = read_registered _ _ _ c.read_rows.ensures _ _ c.in_ok-n-2.was _ _ c.register_typed.ensures
