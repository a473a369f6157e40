use Rattle.names.proofs.NamePutting.{put_unshaped, put_whole, put_form}
use Rattle.names.proofs.putting.put_name.Goals as goal

-- src/putting.rt:24:9
pub returns-then-not-has_name_shape : goal.returns-then-not-has_name_shape
returns-then-not-has_name_shape c = λ t. put_unshaped _ _ _ _ c.has_name_shape.ensures c.if-not-has_name_shape.true-raw

-- src/putting.rt:30:9
pub returns-then-front-s : goal.returns-then-front-s
returns-then-front-s c = λ t. put_whole _ _ _ _ c.has_name_shape.ensures c.if-not-has_name_shape.false-raw _ c.from-start.ensures _ c.own_front-front.ensures c.if-front-s.true _ c.put_bytes.ensures

-- src/putting.rt:12:1
pub returns : goal.returns
returns c = λ t. put_form _ _ _ _ c.has_name_shape.ensures c.if-not-has_name_shape.false-raw _ c.from-start.ensures _ _ (c.compose_from.ensures t)
