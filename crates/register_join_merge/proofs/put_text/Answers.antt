use native.Mathlib.Omega.{arith}
use Rattle.register_join_merge.proofs.Ways.{pasted_past, pasted_full, pasted}
use Rattle.register_join_merge.proofs.put_text.Goals as goal

pub returns-then-heap-at : goal.returns-then-heap-at
returns-then-heap-at c = pasted_past _ _ _ c.if-heap-at.true

pub returns-then-heap-at-2 : goal.returns-then-heap-at-2
returns-then-heap-at-2 c = pasted_full _ _ _ c.if-heap-at.false c.if-heap-at-2.true

pub returns : goal.returns
returns c = pasted _ _ _ _ _ c.if-heap-at.false c.if-heap-at-2.false c.copy_from_slice.ensures.after (omega arith)
