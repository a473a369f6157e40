use Rattle.register_text_verdict.proofs.Judging.{handed}
use Rattle.call_register.proofs.Calls.{rows_refused, rows_written}
use Rattle.call_register.proofs.register_rows.Goals as goal

pub returns-in_err-verdict : goal.returns-in_err-verdict
returns-in_err-verdict c = rw (handed _ _ c.from_residual.ensures) (rows_refused _ _ _ _ _ _ _ c.judge-verdict.ensures _ _ c.in_err-verdict.was)

pub returns : goal.returns
returns c = rows_written _ _ _ _ _ _ _ c.judge-verdict.ensures _ _ _ _ c.in_ok-verdict.was c.write_text.ensures
