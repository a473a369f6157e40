use mathlib.Core.Path.{refl}
use native.Mathlib.Omega.{arith}
use Rattle.register_join_draft.proofs.Ways.{properties_none, properties_next, properties_all}
use Rattle.register_join_draft.proofs.Side.put_properties.Goals as goal

pub loop-p-init : goal.loop-p-init
loop-p-init c = properties_none _ _ _ _ _ _

pub loop-p-preserved : goal.loop-p-preserved
loop-p-preserved c = properties_next _ _ _ _ _ _ _ _ _ _ _ _ _ _ _ _ _ _ _ _ c.loop-p.invariant (omega arith) c.from.ensures c.kind_byte.ensures c.put.ensures c.name_number.ensures refl c.item.ensures c.enter-n.ensures

pub returns : goal.returns
returns c = properties_all _ _ _ _ _ _ _ _ _ _ _ _ c.loop-p.invariant c.property_count-p-end.ensures (omega arith) (omega arith)
