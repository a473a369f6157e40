use mathlib.Core.Path.{◌≡◌}
use Rattle.buffer.specs.Tests.{all_to}
use Rattle.register_form_test.specs.Stages.{rise_test}
use Rattle.register_form_test.proofs.layout.never_falls.Given as goal

abbrev pub invariant-loop-i : goal.invariant-loop-i
invariant-loop-i l = l.ok ≡ all_to l.i (rise_test l.h l.table)
