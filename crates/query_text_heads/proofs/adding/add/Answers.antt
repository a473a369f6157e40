use Rattle.query_text_heads.proofs.Following.{added}
use Rattle.query_text_heads.proofs.adding.add.Goals as goal

pub returns : goal.returns
returns c = added _ _ _ _ _ c.put_node-place.ensures
