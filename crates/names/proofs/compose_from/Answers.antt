use native.Mathlib.Omega.{arith}
use Rattle.names.proofs.NamePutting.{put_front, put_size, put_next, put_stopped, put_done}
use Rattle.names.proofs.compose_from.Goals as goal

-- src/lib.rt:185:5
pub loop-i-init : goal.loop-i-init
loop-i-init c = put_front _ _ _ _ _ c.requires.0

-- src/lib.rt:189:13
pub shape_of-h-then-w-eq0 : goal.shape_of-h-then-w-eq0
shape_of-h-then-w-eq0 c = put_size _ _ _ _ _ c.requires.0 _ _ c.part.ensures c.put_bytes.ensures _ _ _ c.loop-i.invariant

-- src/lib.rt:189:13
pub returns-then-w-eq0 : goal.returns-then-w-eq0
returns-then-w-eq0 c = put_stopped _ _ _ _ _ c.requires.0 _ _ c.part.ensures c.put_bytes.ensures _ _ _ c.loop-i.invariant _ c.letter_at-x.ensures c.loop-i-test.true c.if-w-eq0.true

-- src/lib.rt:191:21
pub overflow_add-at : goal.overflow_add-at
overflow_add-at c = omega (arith, c.loop-i.invariant.shorter, c.loop-i-test.true, c.requires.1)

-- src/lib.rt:192:9
pub overflow_add-n : goal.overflow_add-n
overflow_add-n c = omega (arith, c.loop-i.invariant.shorter, c.loop-i-test.true, c.size_of-n.ensures, c.letter_at-x.ensures.shorter c.if-w-eq0.false, c.letter_at-x.ensures.most, c.well_formed.1)

-- src/lib.rt:193:9
pub overflow_add-i : goal.overflow_add-i
overflow_add-i c = omega (arith, c.loop-i-test.true, c.letter_at-x.ensures.most, c.well_formed)

-- src/lib.rt:185:5
pub loop-i-smaller : goal.loop-i-smaller
loop-i-smaller c = omega (arith, c.loop-i-test.true, c.if-w-eq0.false)

-- src/lib.rt:185:5
pub loop-i-preserved : goal.loop-i-preserved
loop-i-preserved c = put_next _ _ _ _ _ _ _ _ c.loop-i.invariant _ c.letter_at-x.ensures c.if-w-eq0.false _ _ c.put_code.ensures c.size_of-n.ensures

-- src/lib.rt:169:1
pub shape_of-h : goal.shape_of-h
shape_of-h c = put_size _ _ _ _ _ c.requires.0 _ _ c.part.ensures c.put_bytes.ensures _ _ _ c.loop-i.invariant

-- src/lib.rt:169:1
pub returns : goal.returns
returns c = put_done _ _ _ _ _ c.requires.0 _ _ c.part.ensures c.put_bytes.ensures _ _ _ c.loop-i.invariant c.loop-i-test.false
