use native.Mathlib.Omega.{arith}
use Rattle.values.specs.Values.{base, read_thousandths}
use Rattle.values.proofs.Decimal.{read_thousandths_small, read_below, ways}
use Rattle.values.proofs.numbers.read_number.Goals as goal

pub returns-in_err-n : goal.returns-in_err-n
returns-in_err-n c = let n = c.in_err-n.was in rw c.from_residual.ensures (search ways)

pub overflow_sub-result : goal.overflow_sub-result
overflow_sub-result c = omega (arith, read_below (read_thousandths _) base (read_thousandths_small _) _ _ c.read_thousandths.ensures c.in_ok-n.was)

pub returns-then-get_or-eq45 : goal.returns-then-get_or-eq45
returns-then-get_or-eq45 c = let n = c.in_ok-n.was in search ways

pub returns-in_err-n-2 : goal.returns-in_err-n-2
returns-in_err-n-2 c = let n = c.in_err-n-2.was in rw c.from_residual-in_err-n-2.ensures (search ways)

pub overflow_add-result : goal.overflow_add-result
overflow_add-result c = omega (arith, read_below (read_thousandths _) base (read_thousandths_small _) _ _ c.read_thousandths-2.ensures c.in_ok-n-2.was)

pub returns : goal.returns
returns c = let n = c.in_ok-n-2.was in search ways
