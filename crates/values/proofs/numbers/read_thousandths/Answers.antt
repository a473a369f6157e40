use native.Mathlib.Omega.{arith}
use Rattle.std.proofs.Common.{◌≡◌, Some}
use Rattle.values.specs.Values.{read_digits, read_fraction}
use Rattle.values.proofs.Decimal.{wholes, read_digits_small, fraction_small, read_below, thousandths}
use borrow.Author.Rules.{rules}
use Rattle.values.proofs.numbers.read_thousandths.Goals as goal

pub returns-in_err-n : goal.returns-in_err-n
returns-in_err-n c = let was = c.in_err-n.was in rw c.from_residual.ensures (search (thousandths, rules))

pub returns-in_err-m : goal.returns-in_err-m
returns-in_err-m c = let n = c.in_ok-n.was in let m = c.in_err-m.was in rw c.from_residual-in_err-m.ensures (search (thousandths, rules))

pub overflow_mul-result : goal.overflow_mul-result
overflow_mul-result c = omega (arith, read_below (read_digits _) wholes (read_digits_small _) _ _ c.read_digits.ensures c.in_ok-n.was)

pub overflow_add-result : goal.overflow_add-result
overflow_add-result c = omega (arith, read_below (read_digits _) wholes (read_digits_small _) _ _ c.read_digits.ensures c.in_ok-n.was, read_below (read_fraction _) 1000 (fraction_small _) _ _ c.read_fraction.ensures c.in_ok-m.was)

pub returns : goal.returns
returns c = let n = c.in_ok-n.was in let m = c.in_ok-m.was in search (thousandths, rules)
