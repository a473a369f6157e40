use mathlib.Core.Path.{refl}
use native.Mathlib.Omega.{arith}
use Rattle.register_join_draft.proofs.Ways.{identifiers_none, identifiers_next, identifiers_all}
use Rattle.register_join_draft.proofs.Side.put_identifiers.Goals as goal

pub loop-i-init : goal.loop-i-init
loop-i-init c = identifiers_none _ _ _ _ _

pub loop-i-preserved : goal.loop-i-preserved
loop-i-preserved c = identifiers_next _ _ _ _ _ _ _ _ _ _ _ _ _ _ _ c.loop-i.invariant (omega arith) c.identifier_number.ensures refl c.item.ensures c.enter-n.ensures

pub returns : goal.returns
returns c = identifiers_all _ _ _ _ _ _ _ _ _ _ c.loop-i.invariant c.page_count-i-end.ensures (omega arith) (omega arith)
