use Rattle.register_form_write.proofs.Closing.{ordered_written}
use Rattle.register_form_write.proofs.write_ordered.Goals as goal

pub returns : goal.returns
returns c = ordered_written _ _ _ _ _ c.put_own.ensures c.write_numbered.ensures
