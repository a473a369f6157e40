use Rattle.std.proofs.Common.{rules}
use Rattle.query_tree_write.proofs.Laws.{empty_put, typed_put, name_put}
use Rattle.query_tree_write.proofs.put_string.Goals as goal

pub returns-then-is_empty : goal.returns-then-is_empty
returns-then-is_empty c = empty_put _ _ _ _ (search rules)

pub returns-then-typed : goal.returns-then-typed
returns-then-typed c = typed_put _ _ _ _ _ c.if-typed.true c.put_bytes.ensures

pub returns : goal.returns
returns c = name_put _ _ _ _ _ _ c.if-typed.false c.put_composed.ensures
