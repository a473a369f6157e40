use Prim.Native.Nat.{◌*◌}
use mathlib.Core.Path.{◌≡◌}
use lib.ListN.{drop}
use Rattle.text.specs.Bytes.{order_of}
use Rattle.text.proofs.compare_long.Given as goal

abbrev pub invariant-loop-k : goal.invariant-loop-k
invariant-loop-k l = order_of l.a l.b ≡ order_of (drop (8 * l.k) l.a) (drop (8 * l.k) l.b)
