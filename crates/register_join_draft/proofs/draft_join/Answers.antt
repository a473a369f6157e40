use Rattle.register_join_draft.proofs.Paging.{join_put}
use Rattle.register_join_draft.proofs.draft_join.Goals as goal

pub returns-clause-joined : goal.returns-clause-joined
returns-clause-joined c = join_put _ _ _ _ _ _ _ _ _ _ _ _ _ _ _ _ _ _ _ _ _ _ _ _ _ _ _ _ _ _ _ _ _ _ _ _ c.put_properties-own.ensures c.put_properties-properties.ensures c.put_identifiers-start.ensures c.put_identifiers-count.ensures c.put_identifiers.ensures c.put_terms-base.ensures c.put_terms-terms.ensures c.put_pages.ensures
