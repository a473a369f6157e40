use Rattle.call_query.proofs.Ways.{handed, read_refused, read_short, read_accepted}
use Rattle.call_query.proofs.read.Goals as goal

pub returns-in_err-read_text : goal.returns-in_err-read_text
returns-in_err-read_text c = rw (handed _ _ c.from_residual.ensures) (read_refused _ _ _ c.read_text.ensures _ _ c.in_err-read_text.was)

pub returns-then-tree-lt-TREE_BYTES : goal.returns-then-tree-lt-TREE_BYTES
returns-then-tree-lt-TREE_BYTES c = read_short _ _ _ c.read_text.ensures _ _ c.in_ok-read_text.was c.if-tree-lt-TREE_BYTES.true

pub returns : goal.returns
returns c = read_accepted _ _ _ c.read_text.ensures _ _ _ c.in_ok-read_text.was c.if-tree-lt-TREE_BYTES.false c.put_bytes.ensures
