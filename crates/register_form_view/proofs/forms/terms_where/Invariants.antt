use Rattle.std.proofs.Common.{ℕ, Bool}
use Rattle.register_form_view.specs.View.{Tells}
use Rattle.register_form_view.proofs.Marks.{Marked}
use Rattle.register_form_view.proofs.forms.terms_where.Given as goal

abbrev pub invariant-loop-f : goal.invariant-loop-f
invariant-loop-f g l = (p : ℕ → Bool) → Tells (goal.F-post g l.test) p → Marked l.fn.range.low l.fn.range.high p l.f l.marks
