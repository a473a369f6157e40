use native.Mathlib.Omega.{arith}
use Rattle.query_text_pieces.proofs.Laws.{dot_fits}
use Rattle.query_text_heads.proofs.Bodies.{chain_last, chain_on}
use Rattle.query_text_heads.proofs.plain.+chain.Goals as goal

pub overflow_add-rest : goal.overflow_add-rest
overflow_add-rest t c = omega (arith, dot_fits c.args.s.now c.part-head.result.now c.args.at c.args.len c.scan-dot.result c.part-head.ensures c.scan-dot.ensures c.if-dot-head.true)

pub overflow_add-rest-then-dot-head : goal.overflow_add-rest-then-dot-head
overflow_add-rest-then-dot-head t c = omega (arith, dot_fits c.args.s.now c.part-head.result.now c.args.at c.args.len c.scan-dot.result c.part-head.ensures c.scan-dot.ensures c.if-dot-head.true)

pub overflow_sub-left : goal.overflow_sub-left
overflow_sub-left t c = omega (arith, dot_fits c.args.s.now c.part-head.result.now c.args.at c.args.len c.scan-dot.result c.part-head.ensures c.scan-dot.ensures c.if-dot-head.true)

pub overflow_sub-left-then-dot-head : goal.overflow_sub-left-then-dot-head
overflow_sub-left-then-dot-head t c = omega (arith, dot_fits c.args.s.now c.part-head.result.now c.args.at c.args.len c.scan-dot.result c.part-head.ensures c.scan-dot.ensures c.if-dot-head.true)

pub chain-inner-requires : goal.chain-inner-requires
chain-inner-requires t c = (omega (arith, dot_fits c.args.s.now c.part-head.result.now c.args.at c.args.len c.scan-dot.result c.part-head.ensures c.scan-dot.ensures c.if-dot-head.true), tt)

pub returns-then-dot-head : goal.returns-then-dot-head
returns-then-dot-head t c = chain_on c.args.s.now _ c.args.at c.args.len _ c.args.names _ _ _ c.trimmed-name.result _ _ c.part-head.ensures c.scan-dot.ensures c.part.ensures c.is_property_name.ensures _ _ _ _ _ c.one_deeper.ensures c.if-dot-head.true c.chain-inner.ensures c.trimmed-name.ensures c.add-outer.ensures c.flag.ensures

pub returns : goal.returns
returns t c = chain_last c.args.s.now _ c.args.at c.args.len _ c.args.names _ _ _ c.trimmed-name-2.result _ _ c.part-head.ensures c.scan-dot.ensures c.part-2.ensures c.is_property_name-2.ensures _ _ c.if-dot-head.false c.trimmed-name-2.ensures c.add-put.ensures c.flag-2.ensures
