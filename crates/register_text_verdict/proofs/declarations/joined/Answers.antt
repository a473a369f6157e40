use native.Mathlib.Omega.{arith}
use Rattle.register_text_verdict.proofs.Naming.{joined_fits, joined_is}
use Rattle.register_text_verdict.proofs.declarations.joined.Goals as goal

-- lost: slice-aggregate-is-closed : tie.Need-slice-aggregate-is-closed
-- slice-aggregate-is-closed c = search rules

pub overflow_add-next : goal.overflow_add-next
overflow_add-next c = omega (arith, joined_fits _ c.args.a c.args.b _ c.is_closed.ensures c.if-not-is_closed.false-raw)

pub overflow_add-next-2 : goal.overflow_add-next-2
overflow_add-next-2 c = omega (arith, joined_fits _ c.args.a c.args.b _ c.is_closed.ensures c.if-not-is_closed.false-raw)

pub overflow_sub-s : goal.overflow_sub-s
overflow_sub-s c = omega (arith, joined_fits _ c.args.a c.args.b _ c.is_closed.ensures c.if-not-is_closed.false-raw)

pub returns : goal.returns
returns c = search joined_is
