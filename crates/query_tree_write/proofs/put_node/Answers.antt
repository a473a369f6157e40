use native.Mathlib.Omega.{arith}
use Rattle.query_tree_write.proofs.Laws.{name_is, put_short, put_full, put_long, put_longer, same_long, put_is, in_room}
use Rattle.query_tree_write.proofs.put_node.Goals as goal

pub returns-then-tree-lt-TREE_BYTES : goal.returns-then-tree-lt-TREE_BYTES
returns-then-tree-lt-TREE_BYTES c = put_short _ _ _ c.if-tree-lt-TREE_BYTES.true

pub returns-then-not-has_room : goal.returns-then-not-has_room
returns-then-not-has_room c = put_full _ _ _ c.args.node _ _ _ c.entry_of-e.ensures c.part-a.ensures c.part-b.ensures _ c.has_room.ensures c.if-not-has_room.true-raw

pub overflow_add-end : goal.overflow_add-end
overflow_add-end c = let r = in_room _ _ c.has_room.ensures c.if-not-has_room.false-raw in omega (arith, r.0, r.1)

pub returns-then-n-gt64 : goal.returns-then-n-gt64
returns-then-n-gt64 c = put_long _ _ _ c.args.node _ _ _ c.entry_of-e.ensures c.part-a.ensures c.part-b.ensures _ _ (name_is _ _ _ _ _ c.put_string-n.ensures) c.if-n-gt64.true

pub overflow_add-end-2 : goal.overflow_add-end-2
overflow_add-end-2 c = let r = in_room _ _ c.has_room.ensures c.if-not-has_room.false-raw in omega (arith, r.0, r.1, c.if-n-gt64.false)

pub overflow_add-end-3 : goal.overflow_add-end-3
overflow_add-end-3 c = let r = in_room _ _ c.has_room.ensures c.if-not-has_room.false-raw in omega (arith, r.0, r.1, c.if-n-gt64.false)

pub returns-then-m-gt64 : goal.returns-then-m-gt64
returns-then-m-gt64 c = put_longer _ _ _ c.args.node _ _ _ c.entry_of-e.ensures c.part-a.ensures c.part-b.ensures _ _ (name_is _ _ _ _ _ c.put_string-n.ensures) _ _ c.put_string-m.ensures c.if-m-gt64.true

pub overflow_mul-count : goal.overflow_mul-count
overflow_mul-count c = let r = in_room _ _ c.has_room.ensures c.if-not-has_room.false-raw in omega (arith, r.0, r.1)

pub overflow_add-count : goal.overflow_add-count
overflow_add-count c = let r = in_room _ _ c.has_room.ensures c.if-not-has_room.false-raw in omega (arith, r.0, r.1)

pub put_row-requires : goal.put_row-requires
put_row-requires c = let r = in_room _ _ c.has_room.ensures c.if-not-has_room.false-raw in omega (arith, r.0, r.1, same_long _ _ c.args.at c.args.node _ _ _ c.entry_of-e.ensures c.part-a.ensures c.part-b.ensures _ _ (name_is _ _ _ _ _ c.put_string-n.ensures) _ _ c.put_string-m.ensures, c.if-tree-lt-TREE_BYTES.false)

pub overflow_add-result : goal.overflow_add-result
overflow_add-result c = let r = in_room _ _ c.has_room.ensures c.if-not-has_room.false-raw in omega (arith, r.0, r.1, c.if-n-gt64.false, c.if-m-gt64.false)

pub overflow_add-result-2 : goal.overflow_add-result-2
overflow_add-result-2 c = let r = in_room _ _ c.has_room.ensures c.if-not-has_room.false-raw in omega (arith, r.0, r.1, c.if-n-gt64.false, c.if-m-gt64.false)

pub overflow_add-result-3 : goal.overflow_add-result-3
overflow_add-result-3 c = let r = in_room _ _ c.has_room.ensures c.if-not-has_room.false-raw in omega (arith, r.0, r.1, c.if-n-gt64.false, c.if-m-gt64.false)

pub returns : goal.returns
returns c = put_is _ _ _ c.args.node _ _ _ c.entry_of-e.ensures c.part-a.ensures c.part-b.ensures _ _ (name_is _ _ _ _ _ c.put_string-n.ensures) _ _ c.put_string-m.ensures _ _ _ c.from.ensures c.narrow.ensures c.put_row.ensures
