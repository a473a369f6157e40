use Rattle.query_text_heads.proofs.Bodies.{identifier_is}
use Rattle.query_text_heads.proofs.plain.identifier.Goals as goal

pub returns : goal.returns
returns c = identifier_is c.args.s.now c.args.p _ _ _ _ _ c.identifier_node-node.result _ c.identifier_node-node.ensures c.add-added.ensures c.is_broken.ensures c.flag.ensures
