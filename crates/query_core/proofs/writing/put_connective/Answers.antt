use Rattle.query_core.specs.Writing.{Puts}
use Rattle.query_core.proofs.Laying.{node_short, node_full, put_joint}
use Rattle.query_core.proofs.writing.put_connective.Goals as goal

pub returns-then-held-lt-QUERY_BYTES : goal.returns-then-held-lt-QUERY_BYTES
unfolding Puts
returns-then-held-lt-QUERY_BYTES c = node_short _ _ _ c.if-held-lt-QUERY_BYTES.true

pub returns-then-count-ge-MOST_NODES : goal.returns-then-count-ge-MOST_NODES
unfolding Puts
returns-then-count-ge-MOST_NODES c = node_full _ _ _ c.if-count-ge-MOST_NODES.true

pub returns : goal.returns
returns c = put_joint _ _ c.if-count-ge-MOST_NODES.false _ _ c.put_slot.ensures c.args.or c.connective_slot-slot.ensures
