use Rattle.std.specs.Prelude.{Some}
use Prim.Native.Nat.{◌≤◌}
use mathlib.Core.Path.{◌≡◌}
use Rattle.query_core.specs.Stack.{height_at}
use Rattle.query_core.proofs.query.is_query.Given as goal

abbrev pub invariant-loop-i : goal.invariant-loop-i
invariant-loop-i l = (height_at l.h l.i ≡ Some l.height) × (l.height ≤ l.i)
