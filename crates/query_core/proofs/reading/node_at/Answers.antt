use Rattle.query_core.proofs.Ways.{in_place}
use Rattle.query_core.proofs.reading.node_at.Goals as goal

pub returns : goal.returns
returns c = search in_place
