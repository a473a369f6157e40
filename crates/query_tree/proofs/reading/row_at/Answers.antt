use Rattle.query_tree.proofs.Ways.{row_past}
use Rattle.query_tree.proofs.reading.row_at.Goals as goal

pub returns-then-h-i : goal.returns-then-h-i
returns-then-h-i c = row_past _ _ c.if-h-i.true
