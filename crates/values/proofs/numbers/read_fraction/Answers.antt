use native.Mathlib.Omega.{arith}
use Rattle.values.specs.Values.{read_digits}
use Rattle.values.proofs.Decimal.{wholes, read_digits_small, read_below, scaled_fits, thousandths}
use borrow.Author.Rules.{rules}
use Rattle.values.proofs.numbers.read_fraction.Goals as goal

pub returns-then-s-eq0 : goal.returns-then-s-eq0
returns-then-s-eq0 c = search (thousandths, rules)

pub returns-then-get_or-digits : goal.returns-then-get_or-digits
returns-then-get_or-digits c = search (thousandths, rules)

pub returns-in_err-n : goal.returns-in_err-n
returns-in_err-n c = let n = c.in_err-n.was in rw c.from_residual.ensures (search (thousandths, rules))

pub overflow_mul-result : goal.overflow_mul-result
overflow_mul-result c = omega (arith, scaled_fits _ _ _ (read_below (read_digits _) wholes (read_digits_small _) _ _ c.read_digits.ensures c.in_ok-n.was) c.last_counts.ensures)

pub returns : goal.returns
returns c = let n = c.in_ok-n.was in search (thousandths, rules)
