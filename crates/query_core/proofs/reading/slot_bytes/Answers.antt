use Rattle.query_core.proofs.Ways.{slot_past}
use Rattle.query_core.proofs.reading.slot_bytes.Goals as goal

pub returns-then-h-i : goal.returns-then-h-i
returns-then-h-i c = slot_past _ _ c.if-h-i.true
