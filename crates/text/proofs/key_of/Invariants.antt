use mathlib.Core.Path.{◌≡◌}
use Rattle.text.specs.Keys.{key_to}
use Rattle.text.proofs.key_of.Given as goal

abbrev pub invariant-loop-i : goal.invariant-loop-i
invariant-loop-i l = l.key ≡ key_to l.i l.t
