use Prim.Native.Nat.{◌≤◌, ◌*◌}
use mathlib.Core.Path.{◌≡◌}
use Rattle.buffer.specs.Tests.{all_to}
use Rattle.register_form_test.specs.Loops.{sum_to}
use Rattle.register_form_test.specs.Stages.{property_test, property_length, names_to}
use Rattle.register_form_test.proofs.texts.properties_ok.Given as goal

abbrev pub invariant-loop-p : goal.invariant-loop-p
invariant-loop-p l = (l.ok ≡ all_to l.p (property_test l.h l.initial.used)) × (l.bytes ≡ sum_to l.p (property_length l.h)) × (l.used ≡ names_to l.h l.p l.initial.used) × (l.bytes ≤ 65535 * l.p)
