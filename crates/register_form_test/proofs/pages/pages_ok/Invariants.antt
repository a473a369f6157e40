use Prim.Native.Nat.{◌≤◌, ◌*◌}
use mathlib.Core.Path.{◌≡◌}
use mathlib.Core.Bool.{true}
use Rattle.buffer.specs.Tests.{all_to}
use Rattle.register_form_test.specs.Loops.{sum_to}
use Rattle.register_form_test.specs.Stages.{page_test, page_length, last_to, places_to}
use Rattle.register_form_test.proofs.pages.pages_ok.Given as goal

abbrev pub invariant-loop-i : goal.invariant-loop-i
invariant-loop-i l = (all_to l.i (page_test l.h l.classes l.initial.last l.initial.places) ≡ true) × (l.bytes ≡ sum_to l.i (page_length l.h l.shown)) × (l.last ≡ last_to l.h l.i l.initial.last) × (l.places ≡ places_to l.h l.i l.initial.places) × (l.bytes ≤ 4295032831 * l.i)
