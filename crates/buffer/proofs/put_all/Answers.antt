use native.Mathlib.Omega.{arith}
use Rattle.buffer.proofs.Looping.{stored_none, stored_more, bytes_all}
use Rattle.buffer.proofs.put_all.Goals as goal

pub loop-i-init : goal.loop-i-init
loop-i-init c = stored_none _ _ _

pub bounds-h-at : goal.bounds-h-at
bounds-h-at c = omega (arith, c.loop-i.invariant.size)

pub loop-i-preserved : goal.loop-i-preserved
loop-i-preserved c = stored_more _ _ _ _ _ c.loop-i.invariant c.loop-i-test.true

pub shape_of-h : goal.shape_of-h
shape_of-h c = c.loop-i.invariant.size

pub returns : goal.returns
returns c = bytes_all _ _ _ _ _ _ c.loop-i.invariant (omega arith)
