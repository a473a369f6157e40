use Rattle.register_text_draft.proofs.Looking.{found_start, found_past, found_none, found_here, found_later}
use Rattle.register_text_draft.proofs.lookup.property_place.Goals as goal

pub loop-k-init : goal.loop-k-init
loop-k-init c = found_start c.args.s.now c.args.t.now c.args.rows.now c.args.m c.args.x.now

pub returns-then-rows-k : goal.returns-then-rows-k
returns-then-rows-k c = found_past c.args.s.now c.args.t.now c.args.rows.now c.args.m c.args.x.now c.loop-k.k c.loop-k.invariant c.if-rows-k.true

pub returns-then-is_declared-same_bytes : goal.returns-then-is_declared-same_bytes
returns-then-is_declared-same_bytes c = found_here c.args.s.now c.args.t.now c.args.rows.now c.args.m c.args.x.now c.loop-k.k c.loop-k.invariant c.loop-k-test.true c.if-rows-k.false _ c.from.ensures c.item_at-item.result c.item_at-item.ensures _ c.is_declared.ensures _ c.part-name.ensures _ c.same_bytes.ensures c.if-is_declared-same_bytes.true _ c.narrow.ensures

pub loop-k-preserved : goal.loop-k-preserved
loop-k-preserved c = found_later c.args.s.now c.args.t.now c.args.rows.now c.args.m c.args.x.now c.loop-k.k c.loop-k.invariant c.loop-k-test.true c.if-rows-k.false _ c.from.ensures c.item_at-item.result c.item_at-item.ensures _ c.is_declared.ensures _ c.part-name.ensures _ c.same_bytes.ensures c.if-is_declared-same_bytes.false

pub returns : goal.returns
returns c = found_none c.args.s.now c.args.t.now c.args.rows.now c.args.m c.args.x.now c.loop-k.k c.loop-k.invariant c.loop-k-test.false
