use mathlib.Core.Path.{◌∙◌}
use Rattle.register_text_draft.proofs.Filling.{names_pushed, written_copied}
use Rattle.register_text_draft.proofs.Lent.{set_size, texts_behind}
use Rattle.register_text_draft.proofs.TextTable.push_names.Goals as goal

pub returns-clause-pushed : goal.returns-clause-pushed
returns-clause-pushed c = names_pushed c.args.self.now c.args.space.now c.args.name.now _ c.from-first.ensures _ _ c.put_composed.ensures _ _ c.narrow.ensures c.from-a.ensures _ c.byte.ensures _ c.put.ensures _ _ c.put_composed-2.ensures _ _ c.narrow-2.ensures c.from-b.ensures _ c.end_text.ensures.ended

pub returns-clause-same_slices : goal.returns-clause-same_slices
returns-clause-same_slices c = texts_behind c.args.self.now _ ((written_copied _ _ _ _ c.put_composed-2.ensures.1).size ∙ set_size _ _ _ _ c.put.ensures ∙ (written_copied _ _ _ _ c.put_composed.ensures.1).size) _ c.end_text.ensures.same_slices
