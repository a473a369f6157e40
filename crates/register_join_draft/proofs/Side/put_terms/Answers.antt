use native.Mathlib.Omega.{arith}
use Rattle.register_join_draft.proofs.Writing.{terms_none, terms_next, terms_all}
use Rattle.register_join_draft.proofs.Side.put_terms.Goals as goal

pub loop-f-init : goal.loop-f-init
loop-f-init c = terms_none _ _ _ _ _ _

pub loop-f-preserved : goal.loop-f-preserved
loop-f-preserved c = terms_next _ _ _ _ _ _ _ _ _ _ _ _ _ c.loop-f.invariant c.put_term-n.ensures

pub returns : goal.returns
returns c = terms_all _ _ _ _ _ _ _ _ _ _ _ c.loop-f.invariant c.term_count-f-end.ensures (omega arith) (omega arith)
