use Rattle.query_text_heads.proofs.Bodies.{value_is}
use Rattle.query_text_heads.proofs.plain.value_piece.Goals as goal

pub returns : goal.returns
returns c = value_is c.args.s.now c.args.p c.args.depth _ _ _ _ _ _ _ _ _ c.is_existence.ensures c.value_node-node.ensures c.add-added.ensures c.part.ensures c.is_value.ensures c.flag.ensures
