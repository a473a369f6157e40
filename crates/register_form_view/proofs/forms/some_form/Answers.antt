use native.Mathlib.Omega.{arith}
use Rattle.register_form_view.specs.View.{Tells}
use Rattle.register_form_view.proofs.Looking.{looked_none, looked_more, looked_all}
use Rattle.register_form_view.proofs.forms.some_form.Goals as goal

pub loop-k-init : goal.loop-k-init
loop-k-init g c = λ p tells. looked_none _ _

pub loop-k-preserved : goal.loop-k-preserved
unfolding Tells
loop-k-preserved g c = λ p tells. looked_more _ _ _ _ _ _ (c.loop-k.invariant p tells) c.two_at.ensures (tells _ _ (omega arith) c.test-some.ensures)

pub returns : goal.returns
returns g c = λ p tells. looked_all _ _ _ _ (c.loop-k.invariant p tells) (omega arith)
