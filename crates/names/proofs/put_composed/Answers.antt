use Rattle.buffer.proofs.Copied.{min_is}
use Rattle.names.proofs.NamePutting.{put_own, put_typed, put_some}
use Rattle.names.proofs.put_composed.Goals as goal

-- src/lib.rt:246:9
pub returns-then-front-s : goal.returns-then-front-s
returns-then-front-s c = put_own _ _ _ _ c.own_front-front.ensures c.if-front-s.true _ c.put_bytes.ensures

-- src/lib.rt:252:9
pub returns-then-n-eq0 : goal.returns-then-n-eq0
returns-then-n-eq0 c = put_typed _ _ _ _ (min_is _ _ _ c.min-start.ensures) _ _ c.compose_rest-n.ensures c.if-n-eq0.true _ c.put_bytes-then-n-eq0.ensures

-- src/lib.rt:240:1
pub returns : goal.returns
returns c = put_some _ _ _ _ (min_is _ _ _ c.min-start.ensures) _ _ c.compose_rest-n.ensures c.if-n-eq0.false
