use mathlib.Core.Path.{◌∙◌}
use native.Mathlib.Omega.{arith}
use Rattle.register_form_assembly.proofs.Keepings.{pass_none, pass_more, pass_all}
use Rattle.register_form_assembly.proofs.keeping.keep_pass.Goals as goal

pub loop-f-init : goal.loop-f-init
loop-f-init c = (omega arith, omega arith, pass_none _ _ _ _ _ _ _ _ _)

pub loop-f-preserved : goal.loop-f-preserved
loop-f-preserved c = (omega arith, omega arith, pass_more _ _ _ _ _ _ _ _ _ _ _ _ _ c.loop-f.invariant.2 _ _ _ _ _ _ _ _ c.loop-f.invariant.0 c.from.ensures (c.from-x.ensures ∙ c.get_or.ensures) c.get_or-in-loop-f.ensures c.is_wanted-wanted.ensures c.get_or-in-loop-f-2.ensures c.keep-count.ensures)

pub returns : goal.returns
returns c = pass_all _ _ _ _ _ _ _ _ _ _ _ _ _ c.loop-f.invariant.2 _ c.loop-f.invariant.0 c.loop-f.invariant.1 (omega arith)
