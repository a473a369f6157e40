use Rattle.query_core.proofs.Tags.{tag_expects}
use Rattle.query_core.proofs.reading.expects_kind_at.Goals as goal

pub returns : goal.returns
returns c = tag_expects _ _ _ c.tag_at-tag.ensures
