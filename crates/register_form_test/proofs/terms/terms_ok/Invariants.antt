use mathlib.Core.Path.{◌≡◌}
use Rattle.buffer.specs.Tests.{all_to}
use Rattle.register_form_test.specs.Stages.{term_test, named_to, shown_to}
use Rattle.register_form_test.proofs.terms.terms_ok.Given as goal

abbrev pub invariant-loop-f : goal.invariant-loop-f
invariant-loop-f l = (l.ok ≡ all_to l.f (term_test l.h l.classes)) × (l.used ≡ named_to l.h l.classes l.f l.initial.used) × (l.shown ≡ shown_to l.h l.classes l.f l.initial.shown)
