use mathlib.Core.Path.{sym}
use native.Mathlib.Omega.{arith}
use Rattle.text.proofs.Laws.{same_unlike, same_differs, same_end}
use Rattle.text.proofs.same_bytes.Goals as goal

pub returns-then-n-b : goal.returns-then-n-b
returns-then-n-b c = sym (same_unlike _ _ c.if-n-b.true)

pub returns-then-n-eq0 : goal.returns-then-n-eq0
returns-then-n-eq0 c = sym (same_end _ _ 0 (omega (arith, c.if-n-eq0.true, c.if-n-b.false)) (omega (arith, c.if-n-eq0.true, c.if-n-b.false)))

pub returns-then-a-n : goal.returns-then-a-n
returns-then-a-n c = sym (same_differs _ _ _ c.if-a-n.true)

pub returns : goal.returns
returns c = c.all_same.ensures
