use native.Mathlib.Omega.{arith}
use Rattle.query_core.specs.Writing.{Puts}
use Rattle.query_core.proofs.Laying.{room_left, room_taken, node_short, node_full, put_nothing, put_there}
use Rattle.query_core.proofs.writing.put_node.Goals as goal

pub returns-then-held-lt-QUERY_BYTES : goal.returns-then-held-lt-QUERY_BYTES
unfolding Puts
returns-then-held-lt-QUERY_BYTES c = node_short _ _ _ c.if-held-lt-QUERY_BYTES.true

pub returns-then-count-ge-MOST_NODES : goal.returns-then-count-ge-MOST_NODES
unfolding Puts
returns-then-count-ge-MOST_NODES c = node_full _ _ _ c.if-count-ge-MOST_NODES.true

pub returns-then-not-has_room : goal.returns-then-not-has_room
unfolding Puts
returns-then-not-has_room c = put_nothing c.args.s.now c.args.t.now c.args.node _ _ c.if-count-ge-MOST_NODES.false _ c.strings_of-strings.ensures _ _ _ c.part-first.ensures c.part-second.ensures c.part-third.ensures (room_taken _ _ _ _ _ c.has_room.ensures c.if-not-has_room.true-raw)

pub overflow_add-end-3 : goal.overflow_add-end-3
overflow_add-end-3 c = let z = room_left _ _ _ _ _ c.has_room.ensures c.if-not-has_room.false-raw in omega (arith, z)

pub put_strings-requires : goal.put_strings-requires
put_strings-requires c = room_left _ _ _ _ _ c.has_room.ensures c.if-not-has_room.false-raw

pub overflow_add-result-3 : goal.overflow_add-result-3
overflow_add-result-3 c = let z = room_left _ _ _ _ _ c.has_room.ensures c.if-not-has_room.false-raw in omega (arith, z)

pub overflow_add-result-4 : goal.overflow_add-result-4
overflow_add-result-4 c = let z = room_left _ _ _ _ _ c.has_room.ensures c.if-not-has_room.false-raw in omega (arith, z)

pub overflow_add-result-5 : goal.overflow_add-result-5
overflow_add-result-5 c = let z = room_left _ _ _ _ _ c.has_room.ensures c.if-not-has_room.false-raw in omega (arith, z)

pub overflow_mul-result : goal.overflow_mul-result
overflow_mul-result c = let z = room_left _ _ _ _ _ c.has_room.ensures c.if-not-has_room.false-raw in omega (arith, z)

pub overflow_add-result-6 : goal.overflow_add-result-6
overflow_add-result-6 c = let z = room_left _ _ _ _ _ c.has_room.ensures c.if-not-has_room.false-raw in omega (arith, z)

pub returns : goal.returns
unfolding Puts
returns c = put_there c.args.s.now c.args.t.now c.args.node _ _ c.if-count-ge-MOST_NODES.false _ c.strings_of-strings.ensures _ _ _ c.part-first.ensures c.part-second.ensures c.part-third.ensures _ _ _ c.slot_of-slot.ensures c.put_slot.ensures c.put_strings.ensures
