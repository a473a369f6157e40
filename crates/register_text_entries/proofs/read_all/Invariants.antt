use Prim.Native.Nat.{◌-◌}
use lib.ListN.{length}
use Rattle.register_text_entries.proofs.Reading.{Going}
use Rattle.register_text_entries.proofs.read_all.Given as goal

abbrev pub invariant-loop-inner : goal.invariant-loop-inner
invariant-loop-inner l = Going l.s l.initial.t l.t l.at l.n l.inner

abbrev pub decreases-loop-inner : goal.decreases-loop-inner
decreases-loop-inner l = length l.s - l.at
