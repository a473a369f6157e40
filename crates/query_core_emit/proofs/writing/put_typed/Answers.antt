use Rattle.query_core_emit.proofs.Composing.{typed_adds}
use Rattle.query_core_emit.proofs.writing.put_typed.Goals as goal

pub returns : goal.returns
returns c = typed_adds c.args.s.now c.args.split _ c.unwrap_or-n.ensures _ _ _ _ _ _ c.part-x.ensures c.part-y.ensures c.put_composed-n_size.ensures c.put_composed-a_size.ensures _ c.and.ensures _ _ _ _ _ _ c.put_select.ensures
