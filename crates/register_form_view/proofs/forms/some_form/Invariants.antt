use Rattle.std.proofs.Common.{ℕ, Bool}
use Rattle.register_form_view.specs.View.{Tells}
use Rattle.register_form_view.proofs.Looking.{Looked}
use Rattle.register_form_view.proofs.forms.some_form.Given as goal

abbrev pub invariant-loop-k : goal.invariant-loop-k
invariant-loop-k g l = (p : ℕ → Bool) → Tells (goal.F-post g l.test) p → Looked l.forms p l.k l.some
