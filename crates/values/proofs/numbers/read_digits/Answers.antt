use mathlib.Core.Path.{refl, ◌∙◌}
use native.Mathlib.Omega.{arith}
use Rattle.values.proofs.Decimal.{digits_unfit, digits_small, digits_fit, decimal_end, decimal_step, step_fits}
use Rattle.values.proofs.numbers.read_digits.Goals as goal

pub returns-then-not-fit : goal.returns-then-not-fit
returns-then-not-fit c = digits_unfit _ _ c.all_in.ensures c.if-not-fit.true-raw

pub loop-b-init : goal.loop-b-init
loop-b-init c = (digits_small _ _ c.all_in.ensures c.if-not-fit.false-raw, refl)

pub overflow_mul-n : goal.overflow_mul-n
overflow_mul-n c = omega (arith, step_fits c.args.s.now c.loop-b.n c.loop-b.b-index c.loop-b.invariant c.loop-b-test.true)

pub overflow_add-n : goal.overflow_add-n
overflow_add-n c = omega (arith, c.digit_of.ensures, step_fits c.args.s.now c.loop-b.n c.loop-b.b-index c.loop-b.invariant c.loop-b-test.true)

pub loop-b-preserved : goal.loop-b-preserved
loop-b-preserved c = (c.loop-b.invariant.0, rw c.digit_of.ensures (c.loop-b.invariant.1 ∙ decimal_step _ _ _ c.loop-b-test.true))

pub returns : goal.returns
returns c = digits_fit _ _ c.all_in.ensures c.if-not-fit.false-raw _ (c.loop-b.invariant.1 ∙ decimal_end c.args.s.now c.loop-b.n c.loop-b.b-index (omega (arith, c.loop-b-test.false)))
