use Rattle.register_text_verdict.proofs.Ways.{kind_past, kind_none, kind_here, kind_later}
use mathlib.Core.Path.{refl}
use Rattle.register_text_verdict.proofs.checks.property_kind.Goals as goal

pub loop-k-init : goal.loop-k-init
loop-k-init c = refl

pub returns-then-rows-k : goal.returns-then-rows-k
returns-then-rows-k c = kind_past c.args.s.now c.args.t.now c.args.rows.now c.args.m c.args.x.now c.loop-k.k c.loop-k.invariant c.if-rows-k.true

pub returns-then-is_declared-same_bytes : goal.returns-then-is_declared-same_bytes
returns-then-is_declared-same_bytes c = kind_here c.args.s.now c.args.t.now c.args.rows.now c.args.m c.args.x.now c.loop-k.k c.loop-k.invariant c.loop-k-test.true c.if-rows-k.false _ c.from.ensures c.item_at-item.result c.item_at-item.ensures _ c.is_declared.ensures _ c.part-name.ensures _ c.same_bytes.ensures c.if-is_declared-same_bytes.true

pub loop-k-preserved : goal.loop-k-preserved
loop-k-preserved c = kind_later c.args.s.now c.args.t.now c.args.rows.now c.args.m c.args.x.now c.loop-k.k c.loop-k.invariant c.loop-k-test.true c.if-rows-k.false _ c.from.ensures c.item_at-item.result c.item_at-item.ensures _ c.is_declared.ensures _ c.part-name.ensures _ c.same_bytes.ensures c.if-is_declared-same_bytes.false

pub returns : goal.returns
returns c = kind_none c.args.s.now c.args.t.now c.args.rows.now c.args.m c.args.x.now c.loop-k.k c.loop-k.invariant c.loop-k-test.false
