use Rattle.names.proofs.Naming.{unshaped}
use Rattle.names.proofs.NamePutting.{own_name, walked_name}
use Rattle.names.proofs.is_name.Goals as goal

-- src/lib.rt:215:9
pub returns-then-not-has_name_shape : goal.returns-then-not-has_name_shape
returns-then-not-has_name_shape c = unshaped _ _ c.has_name_shape.ensures c.if-not-has_name_shape.true-raw

-- src/lib.rt:219:9
pub returns-then-front-s : goal.returns-then-front-s
returns-then-front-s c = own_name _ _ c.has_name_shape.ensures c.if-not-has_name_shape.false-raw _ c.own_front-front.ensures c.if-front-s.true

-- src/lib.rt:211:1
pub returns : goal.returns
returns c = walked_name _ _ c.has_name_shape.ensures c.if-not-has_name_shape.false-raw _ c.own_front-front.ensures c.if-front-s.false _ c.compose_rest-n.ensures.count
