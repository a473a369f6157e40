use Prim.Native.Nat.{◌≤◌}
use mathlib.Core.Path.{◌≡◌}
use Rattle.buffer.specs.Tests.{all_to}
use Rattle.register_form_test.specs.Loops.{is_set}
use lib.ListN.{length}
use Rattle.register_form_test.proofs.pages.terms_used.Given as goal

abbrev pub invariant-loop-f : goal.invariant-loop-f
invariant-loop-f l = (l.ok ≡ all_to l.f (is_set l.last)) × (l.n ≤ length l.last)
