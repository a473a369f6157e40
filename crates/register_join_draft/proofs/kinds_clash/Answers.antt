use Rattle.register_join_draft.proofs.Clashing.{clash_put}
use Rattle.register_join_draft.proofs.kinds_clash.Goals as goal

pub returns : goal.returns
returns c = clash_put _ _ _ _ _ _ _ _ _ c.put_properties.ensures c.some_clash.ensures
