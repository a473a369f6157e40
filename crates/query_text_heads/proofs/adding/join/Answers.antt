use Rattle.query_text_heads.proofs.Following.{connected}
use Rattle.query_text_heads.proofs.adding.join.Goals as goal

pub returns : goal.returns
returns c = connected c.args.s.now _ _ _ _ c.args.kind c.join_node.result _ _ _ c.saturating_sub-n.ensures c.join_node.ensures c.add.ensures
