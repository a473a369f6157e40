use mathlib.Core.Path.{◌≡◌}
use mathlib.Core.Bool.{false}
use Rattle.register_join_draft.specs.Drafting.{some_clash}
use Rattle.register_join_draft.proofs.Side.some_clash.Given as goal

abbrev pub invariant-loop-p : goal.invariant-loop-p
invariant-loop-p l = (some_clash l.self.held.now l.other l.self.items.now l.table l.p ≡ false)
