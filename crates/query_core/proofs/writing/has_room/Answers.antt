use Rattle.query_core.proofs.Laying.{rooms}
use Rattle.query_core.proofs.writing.has_room.Goals as goal

pub returns-then-end-gt-HEAP_BYTES : goal.returns-then-end-gt-HEAP_BYTES
returns-then-end-gt-HEAP_BYTES c = search rooms

pub returns-then-end-first : goal.returns-then-end-first
returns-then-end-first c = search rooms

pub returns-then-end-first-2 : goal.returns-then-end-first-2
returns-then-end-first-2 c = search rooms

pub returns : goal.returns
returns c = search rooms
