use mathlib.Core.Path.{◌≡◌}
use Rattle.buffer.specs.Tests.{all_to}
use Rattle.register_form_test.specs.Stages.{text_test, classes_to}
use Rattle.register_form_test.proofs.texts.texts_ok.Given as goal

abbrev pub invariant-loop-x : goal.invariant-loop-x
invariant-loop-x l = (l.ok ≡ all_to l.x (text_test l.h)) × (l.classes ≡ classes_to l.h l.x l.initial.classes)
