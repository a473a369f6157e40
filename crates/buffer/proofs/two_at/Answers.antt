use Prim.Native.Nat.{◌+◌}
use mathlib.Core.Path.{refl}
use native.Mathlib.Omega.{arith}
use Rattle.buffer.proofs.Reading.{two_last, two_is}
use Rattle.buffer.proofs.two_at.Goals as goal

pub returns-then-h-lt2 : goal.returns-then-h-lt2
returns-then-h-lt2 c = two_last _ _ _ _ (omega arith) c.get_or.ensures c.from.ensures

pub returns-then-h-i : goal.returns-then-h-i
returns-then-h-i c = two_last _ _ _ _ (omega arith) c.get_or-then-h-i.ensures c.from-then-h-i.ensures

pub overflow_mul-result : goal.overflow_mul-result
overflow_mul-result c = omega (arith, c.shared_slice_known-1.given (c.args.i + 1), c.from-3.ensures)

pub overflow_add-result : goal.overflow_add-result
overflow_add-result c = omega (arith, c.shared_slice_known-1.given c.args.i, c.shared_slice_known-1.given (c.args.i + 1), c.from-2.ensures, c.from-3.ensures)

pub returns : goal.returns
returns c = two_is _ _ _ _ _ _ refl c.from-2.ensures refl c.from-3.ensures
