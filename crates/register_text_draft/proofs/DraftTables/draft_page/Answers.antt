use mathlib.Core.Path.{refl}
use Rattle.register_text_draft.proofs.Lent.{same_properties, same_terms}
use Rattle.register_text_draft.proofs.DraftTables.draft_page.Goals as goal

pub returns-clause-added : goal.returns-clause-added
returns-clause-added c = λ ps short. c.draft_page.ensures.added ps _ _ refl short

pub returns-clause-same_slices : goal.returns-clause-same_slices
returns-clause-same_slices c = record { texts = c.draft_page.ensures.same_texts; properties = same_properties _; pages = c.draft_page.ensures.same_pages; terms = same_terms _ }
