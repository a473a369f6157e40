use native.Mathlib.Omega.{arith}
use Rattle.register_text_entries.proofs.Reading.{going_start, goings}
use Rattle.register_text_entries.proofs.read_all.Goals as goal

pub loop-inner-init : goal.loop-inner-init
loop-inner-init c = going_start _ _

pub shape_of-t-in_err-item : goal.shape_of-t-in_err-item
shape_of-t-in_err-item c = c.loop-inner.invariant.size

pub returns-in_err-item : goal.returns-in_err-item
returns-in_err-item c = let gone = c.in_err-item.was in rw c.from_residual.ensures (search goings)

pub overflow_add-n : goal.overflow_add-n
overflow_add-n c = omega arith

pub loop-inner-smaller : goal.loop-inner-smaller
loop-inner-smaller c = let a = c.in_ok-item.was in search goings

pub loop-inner-preserved : goal.loop-inner-preserved
loop-inner-preserved c = let a = c.in_ok-item.was in search goings

pub shape_of-t : goal.shape_of-t
shape_of-t c = c.loop-inner.invariant.size

pub returns : goal.returns
returns c = search goings
