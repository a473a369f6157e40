use native.Mathlib.Omega.{arith}
use Rattle.register_text_entries.proofs.Copying.{going_none, going_more, going_done}
use Rattle.register_text_entries.proofs.composing.compose.Goals as goal

pub loop-i-init : goal.loop-i-init
loop-i-init c = going_none _ _ _ _

pub loop-i-preserved : goal.loop-i-preserved
loop-i-preserved c = going_more _ _ _ _ _ _ _ _ _ c.loop-i.invariant _ _ _ _ _ c.item_at.ensures c.copy_entry-copied.ensures c.put_item.ensures c.narrow-end.ensures

pub shape_of-copy : goal.shape_of-copy
shape_of-copy c = c.loop-i.invariant.bytes

pub shape_of-u : goal.shape_of-u
shape_of-u c = c.loop-i.invariant.size

pub returns : goal.returns
returns c = going_done _ _ _ _ _ _ _ _ _ c.loop-i.invariant _ (omega arith) (omega (arith, c.loop-i-test.false))
