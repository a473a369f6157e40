use Rattle.register_form_write.proofs.Placing.{all_put}
use Rattle.register_form_write.proofs.Answering.{fitted_short, fitted_written}
use Rattle.register_form_write.proofs.regions.write_fitting.Goals as goal

pub returns-then-held-lt-REGISTER_BYTES : goal.returns-then-held-lt-REGISTER_BYTES
returns-then-held-lt-REGISTER_BYTES c = fitted_short _ _ c.if-held-lt-REGISTER_BYTES.true

pub returns : goal.returns
returns c = fitted_written _ _ _ _ c.if-held-lt-REGISTER_BYTES.false c.clear.ensures (all_put _ _ _ _ _ _ _ _ _ _ _ _ _ _ _ _ _ c.write_rows.ensures c.write_lists.ensures)
