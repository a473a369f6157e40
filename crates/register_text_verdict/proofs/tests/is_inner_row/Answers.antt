use Rattle.register_text_verdict.proofs.Loops.{inner_row}
use Rattle.register_text_verdict.proofs.tests.is_inner_row.Goals as goal

pub returns : goal.returns
returns c = inner_row _ _ c.item_at.result c.item_at.ensures _ c.is_inner.ensures
