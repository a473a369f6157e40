use Rattle.std.proofs.Common.{ℕ, Bool}
use Rattle.register_form.specs.Form.{page_count}
use Rattle.register_form_view.specs.View.{Tells}
use Rattle.register_form_view.proofs.Marks.{Taken}
use Rattle.register_form_view.proofs.pages.pages_passing.Given as goal

abbrev pub invariant-loop-i : goal.invariant-loop-i
invariant-loop-i g l = (p : ℕ → Bool) → Tells (goal.F-post g l.test) p → Taken (page_count l.h) p l.i l.set
