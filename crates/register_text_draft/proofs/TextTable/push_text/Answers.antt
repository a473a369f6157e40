use mathlib.Core.Path.{◌∙◌}
use Rattle.register_text_draft.proofs.Filling.{text_pushed, written_copied}
use Rattle.register_text_draft.proofs.Lent.{set_size, texts_behind}
use Rattle.register_text_draft.proofs.TextTable.push_text.Goals as goal

pub returns-clause-pushed : goal.returns-clause-pushed
returns-clause-pushed c = text_pushed c.args.self.now c.args.space.now c.args.name.now _ c.from-first.ensures _ _ _ _ c.narrow.ensures c.from-a.ensures c.narrow-2.ensures c.from-b.ensures _ c.byte.ensures _ _ _ c.put.ensures (written_copied _ _ _ _ c.put_bytes.ensures) (written_copied _ _ _ _ c.put_bytes-2.ensures) _ c.end_text.ensures.ended

pub returns-clause-same_slices : goal.returns-clause-same_slices
returns-clause-same_slices c = texts_behind c.args.self.now _ ((written_copied _ _ _ _ c.put_bytes-2.ensures).size ∙ (written_copied _ _ _ _ c.put_bytes.ensures).size ∙ set_size _ _ _ _ c.put.ensures) _ c.end_text.ensures.same_slices
