use Rattle.register_text_entries.proofs.Copying.{named_put, typed_put}
use Rattle.register_text_entries.proofs.composing.put_second.Goals as goal

-- src/composing.rt:127:1
pub returns-then-is_named : goal.returns-then-is_named
returns-then-is_named c = named_put _ _ _ _ _ _ c.is_named.ensures c.if-is_named.true _ c.put_name.ensures

-- src/composing.rt:127:1
pub returns-else-is_named : goal.returns-else-is_named
returns-else-is_named c = typed_put _ _ _ _ _ _ c.is_named.ensures c.if-is_named.false _ c.from.ensures c.put_bytes.ensures
