use Rattle.register_text_draft.proofs.Lent.{same_pages, same_terms}
use Rattle.register_text_draft.proofs.DraftTables.draft_prop.Goals as goal

pub returns-clause-added : goal.returns-clause-added
returns-clause-added c = λ ps. c.draft_prop.ensures.added ps _ _

pub returns-clause-same_slices : goal.returns-clause-same_slices
returns-clause-same_slices c = record { texts = c.draft_prop.ensures.same_texts; properties = c.draft_prop.ensures.same_properties; pages = same_pages _; terms = same_terms _ }
