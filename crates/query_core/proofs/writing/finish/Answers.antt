use Rattle.query_core.proofs.Laying.{count_put}
use Rattle.query_core.proofs.writing.finish.Goals as goal

pub returns : goal.returns
returns c = count_put _ _ _ _ c.count_of.ensures c.put_two.ensures
