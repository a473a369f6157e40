use native.Mathlib.Omega.{arith}
use Rattle.values.proofs.Digits.{four_off, counted, few}
use Rattle.values.proofs.numbers.digit_count.Goals as goal

pub loop-rest-init : goal.loop-rest-init
loop-rest-init c = (omega arith, few _ (omega arith))

pub overflow_add-k : goal.overflow_add-k
overflow_add-k c = omega arith

pub loop-rest-smaller : goal.loop-rest-smaller
loop-rest-smaller c = omega arith

pub loop-rest-preserved : goal.loop-rest-preserved
loop-rest-preserved c = (four_off _ _ _ c.loop-rest.invariant.0 c.loop-rest-test.true, c.loop-rest.invariant.1)

pub overflow_add-result : goal.overflow_add-result
overflow_add-result c = omega (arith, counted _ _ _ _ c.loop-rest.invariant.0 c.loop-rest-test.false c.few_digits.ensures)

pub returns : goal.returns
returns c = counted _ _ _ _ c.loop-rest.invariant.0 c.loop-rest-test.false c.few_digits.ensures
