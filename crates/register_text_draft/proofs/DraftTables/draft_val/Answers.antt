use Rattle.register_text_draft.proofs.Lent.{own_identifiers, same_properties}
use Rattle.register_text_draft.proofs.DraftTables.draft_val.Goals as goal

pub returns-clause-added : goal.returns-clause-added
returns-clause-added c = λ ps l q. own_identifiers _ _ c.draft_val.ensures.kept.0 _ _ c.args.self.now.properties _ _ _ (λ i. c.draft_val.ensures.added ps c.args.self.now.properties i l q)

pub returns-clause-same_slices : goal.returns-clause-same_slices
returns-clause-same_slices c = record { texts = c.draft_val.ensures.same_texts; properties = same_properties _; pages = c.draft_val.ensures.same_pages; terms = c.draft_val.ensures.same_terms }
