use native.Mathlib.Omega.{arith}
use Rattle.register_form_view.specs.View.{Tells}
use Rattle.register_form_view.proofs.Marks.{taken_none, taken_with, taken_same, taken_all}
use Rattle.register_form_view.proofs.pages.pages_passing.Goals as goal
use Rattle.register_form_view.proofs.pages.pages_passing.Goals.{then-test, else-test}

pub loop-i-init : goal.loop-i-init
loop-i-init g c = λ p tells. taken_none _ _ _ c.none-set.ensures

pub loop-i-preserved : goal.loop-i-preserved
unfolding Tells
loop-i-preserved g c =
    λ p tells.
    let is = tells _ _ (omega arith) c.test.ensures in
    let so_far = c.loop-i.invariant p tells in
    elim c.if-test.branch [ then-test w ↦ taken_with _ _ _ _ so_far (omega arith) _ is _ _ _ w.if-test.true w.from.ensures w.with-set.ensures w.set-is | else-test w ↦ taken_same _ _ _ _ so_far (omega arith) _ is _ w.if-test.false w.set-is ]

pub returns : goal.returns
returns g c = λ p tells. taken_all _ _ _ _ (c.loop-i.invariant p tells) (omega arith)
