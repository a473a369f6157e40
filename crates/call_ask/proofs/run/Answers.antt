use Rattle.call_ask.proofs.Calls.{run_mixed, run_short, run_done}
use Rattle.call_ask.proofs.run.Goals as goal

pub returns-then-has_mismatch : goal.returns-then-has_mismatch
returns-then-has_mismatch c = run_mixed _ _ _ _ _ c.has_mismatch.ensures c.if-has_mismatch.true

pub returns-then-out-from : goal.returns-then-out-from
returns-then-out-from c = run_short _ _ _ _ _ c.has_mismatch.ensures c.if-has_mismatch.false _ _ c.page_count-n.ensures c.from.ensures c.if-out-from.true

pub returns : goal.returns
returns c = run_done _ _ _ _ _ c.has_mismatch.ensures c.if-has_mismatch.false _ _ _ _ _ c.page_count-n.ensures c.from.ensures c.if-out-from.false c.select-set.ensures c.write_marks.ensures c.count.ensures
