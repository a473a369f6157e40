use native.Mathlib.Omega.{arith}
use Rattle.register_join_draft.proofs.Clashing.{clash_start, clash_more, clash_found, clash_all}
use Rattle.register_join_draft.proofs.Side.some_clash.Goals as goal

pub loop-p-init : goal.loop-p-init
loop-p-init c = clash_start _ _ _ _

pub returns-then-clashes : goal.returns-then-clashes
returns-then-clashes c = clash_found _ _ _ _ _ _ _ c.property_count-p-end.ensures (omega arith) c.clashes.ensures c.if-clashes.true

pub loop-p-preserved : goal.loop-p-preserved
loop-p-preserved c = clash_more _ _ _ _ _ _ c.loop-p.invariant c.clashes.ensures c.if-clashes.false

pub returns : goal.returns
returns c = clash_all _ _ _ _ _ _ c.loop-p.invariant c.property_count-p-end.ensures (omega arith) (omega arith)
