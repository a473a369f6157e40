use Rattle.register_form_write.proofs.Placing.{lists_put}
use Rattle.register_form_write.proofs.regions.write_lists.Goals as goal

pub returns : goal.returns
returns c = lists_put _ _ _ _ _ _ c.put_texts.ensures c.put_starts.ensures c.put_texts-2.ensures
