use mathlib.Core.Path.{◌≡◌}
use Rattle.buffer.specs.Tests.{all_to}
use Rattle.register_form_test.specs.Stages.{kind_test}
use Rattle.register_form_test.proofs.layout.are_kinds.Given as goal

abbrev pub invariant-loop-p : goal.invariant-loop-p
invariant-loop-p l = l.ok ≡ all_to l.p (kind_test l.h)
