use mathlib.Core.Path.{◌∙◌}
use native.Mathlib.Omega.{arith}
use Rattle.ask_evaluation.proofs.Mixing.{some_none, some_more, some_all}
use Rattle.ask_evaluation.proofs.mismatch.has_mismatch.Goals as goal

pub loop-i-init : goal.loop-i-init
loop-i-init c = some_none _ _

pub loop-i-preserved : goal.loop-i-preserved
loop-i-preserved c = some_more _ _ _ _ c.loop-i.invariant _ c.mixes_at-some.ensures

pub returns : goal.returns
returns c = some_all _ _ _ _ c.loop-i.invariant _ (c.from-n.ensures ∙ c.two_at.ensures) (omega arith) (omega arith)
