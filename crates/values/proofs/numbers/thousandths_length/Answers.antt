use native.Mathlib.Omega.{arith}
use Prim.Native.Nat.{◌/◌, ◌%◌}
use Rattle.values.proofs.Digits.{lengths, few, fraction_most}
use borrow.Author.Rules.{rules}
use Rattle.values.proofs.numbers.thousandths_length.Goals as goal

pub overflow_add-result : goal.overflow_add-result
overflow_add-result c = omega (arith, c.digit_count.ensures, c.fraction_length.ensures, few (c.args.n / 1000) (omega arith), fraction_most (c.args.n % 1000))

pub returns : goal.returns
returns c = search (lengths, rules)
