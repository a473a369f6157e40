use Rattle.call_join.proofs.Calls.{join_written}
use Rattle.call_join.proofs.write_join.Goals as goal

pub returns : goal.returns
returns c =
    let w = rw c.draft_of.ensures at c.write_ordered.ensures in
    join_written _ _ _ _ _ _ _ _ _ _ _ _ _ _ _ _ _ _ _ _ _ c.draft_join.ensures.joined w
