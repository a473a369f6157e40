use Prim.Native.Nat.{◌+◌, ◌-◌}
use Rattle.register_form.specs.Form.{text_count}
use Rattle.register_join_merge.specs.Merging.{SameSlices}
use Rattle.register_join_merge.proofs.Run.{Run}
use Rattle.register_join_merge.proofs.merge.Given as goal

abbrev pub invariant-loop-i : goal.invariant-loop-i
invariant-loop-i l =
    Run l.h l.g l.initial.heap.bytes.now l.initial.heap.starts.now l.initial.heap.lens.now l.initial.items1 l.initial.items2 l.heap.bytes.now l.heap.starts.now l.heap.lens.now l.items1 l.items2 l.i l.j l.k l.end × SameSlices l.initial.heap l.heap

abbrev pub decreases-loop-i : goal.decreases-loop-i
decreases-loop-i l =
    (text_count l.h - l.i) + (text_count l.g - l.j)
