use native.Mathlib.Omega.{arith}
use Rattle.query_text_pieces.proofs.Laws.{dot_fits, last_is, last_on}
use Rattle.query_text_pieces.proofs.+last_name.Goals as goal

pub overflow_add-at : goal.overflow_add-at
overflow_add-at t c = omega (arith, dot_fits c.args.s.now c.part-head.result.now c.args.at c.args.len c.scan-dot.result c.part-head.ensures c.scan-dot.ensures c.if-dot-head.true)

pub overflow_add-at-then-dot-head : goal.overflow_add-at-then-dot-head
overflow_add-at-then-dot-head t c = omega (arith, dot_fits c.args.s.now c.part-head.result.now c.args.at c.args.len c.scan-dot.result c.part-head.ensures c.scan-dot.ensures c.if-dot-head.true)

pub overflow_sub-len : goal.overflow_sub-len
overflow_sub-len t c = omega (arith, dot_fits c.args.s.now c.part-head.result.now c.args.at c.args.len c.scan-dot.result c.part-head.ensures c.scan-dot.ensures c.if-dot-head.true)

pub overflow_sub-len-then-dot-head : goal.overflow_sub-len-then-dot-head
overflow_sub-len-then-dot-head t c = omega (arith, dot_fits c.args.s.now c.part-head.result.now c.args.at c.args.len c.scan-dot.result c.part-head.ensures c.scan-dot.ensures c.if-dot-head.true)

pub last_name-requires : goal.last_name-requires
last_name-requires t c = (omega (arith, dot_fits c.args.s.now c.part-head.result.now c.args.at c.args.len c.scan-dot.result c.part-head.ensures c.scan-dot.ensures c.if-dot-head.true), tt)

pub returns-then-dot-head : goal.returns-then-dot-head
returns-then-dot-head t c = last_on _ _ _ _ _ c.last_name.result c.part-head.ensures c.scan-dot.ensures c.if-dot-head.true c.last_name.ensures

pub returns-else-dot-head : goal.returns-else-dot-head
returns-else-dot-head t c = last_is _ _ _ _ _ c.trimmed.result c.part-head.ensures c.scan-dot.ensures c.if-dot-head.false c.trimmed.ensures
