use Prim.Native.Nat.{◌≤◌, ◌*◌}
use mathlib.Core.Path.{◌≡◌}
use mathlib.Core.Bool.{true}
use lib.ListN.{length}
use Rattle.buffer.specs.Tests.{all_to}
use Rattle.register_form_test.specs.Loops.{sum_to}
use Rattle.register_form_test.specs.Stages.{form_test, behind_at, form_length, last_by}
use Rattle.register_form_test.proofs.pages.forms_ok.Given as goal

abbrev pub invariant-loop-j : goal.invariant-loop-j
invariant-loop-j l = (2 * l.j ≤ length l.forms) × (all_to l.j (form_test l.h l.mark l.initial.last l.i) ≡ true) × (l.behind ≡ behind_at l.h l.i l.j) × (l.bytes ≡ sum_to l.j (form_length l.h l.shown l.i)) × (l.last ≡ last_by l.h l.mark l.i l.j l.initial.last) × (l.bytes ≤ 65535 * l.j) × (length l.forms ≤ 4096)
