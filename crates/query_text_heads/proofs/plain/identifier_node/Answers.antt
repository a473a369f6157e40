use Rattle.query_text_heads.proofs.Bodies.{node_namespace, node_qualified, node_bare}
use Rattle.query_text_heads.proofs.plain.identifier_node.Goals as goal

pub returns-in_default : goal.returns-in_default
returns-in_default c = node_bare c.args.s.now c.args.p c.args.split c.requires.is c.in_default.is

pub returns-then-is_equal-same_bytes : goal.returns-then-is_equal-same_bytes
returns-then-is_equal-same_bytes c = node_namespace c.args.s.now c.args.p c.args.split c.requires.is _ c.in-Some.is _ _ c.is_equal.ensures _ c.part.ensures c.same_bytes.ensures c.if-is_equal-same_bytes.true

pub returns-else-is_equal-same_bytes : goal.returns-else-is_equal-same_bytes
returns-else-is_equal-same_bytes c = node_qualified c.args.s.now c.args.p c.args.split c.requires.is _ c.in-Some.is _ _ c.is_equal.ensures _ c.part.ensures c.same_bytes.ensures c.if-is_equal-same_bytes.false
