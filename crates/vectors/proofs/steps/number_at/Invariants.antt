use Rattle.std.proofs.Common.{◌≤◌}
use Rattle.vectors.proofs.steps.number_at.Given as goal

abbrev pub invariant-loop-i : goal.invariant-loop-i
invariant-loop-i l = l.value ≤ 1000254
