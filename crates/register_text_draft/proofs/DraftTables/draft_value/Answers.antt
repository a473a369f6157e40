use Rattle.register_text_draft.proofs.Lent.{own_identifiers, same_properties}
use Rattle.register_text_draft.proofs.DraftTables.draft_value.Goals as goal

pub returns-clause-added : goal.returns-clause-added
returns-clause-added c = λ w e short. own_identifiers _ _ c.draft_value.ensures.kept.0 _ _ c.args.self.now.properties _ _ _ (λ i. c.draft_value.ensures.added w c.args.self.now.properties i e short)

pub returns-clause-same_slices : goal.returns-clause-same_slices
returns-clause-same_slices c = record { texts = c.draft_value.ensures.same_texts; properties = same_properties _; pages = c.draft_value.ensures.same_pages; terms = c.draft_value.ensures.same_terms }
