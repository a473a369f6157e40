use mathlib.Core.Path.{refl}
use native.Mathlib.Omega.{arith}
use Rattle.register_form_view.specs.View.{Tells}
use Rattle.register_form_view.proofs.Marks.{marked_none, marked_more, marked_all}
use Rattle.register_form_view.proofs.forms.terms_where.Goals as goal

pub loop-f-init : goal.loop-f-init
loop-f-init g c = λ p tells. marked_none _ _ _ _ refl

pub loop-f-preserved : goal.loop-f-preserved
unfolding Tells
loop-f-preserved g c = λ p tells. marked_more _ _ _ _ _ (c.loop-f.invariant p tells) _ _ (omega arith) (omega arith) c.from.ensures (tells _ _ (omega arith) c.test.ensures)

pub returns : goal.returns
returns g c = λ p tells. marked_all _ _ _ _ _ (c.loop-f.invariant p tells) (omega arith)
