use native.Mathlib.Omega.{arith}
use borrow.Author.Rules.{rules}
use Rattle.values.proofs.Digits.{lengths, below_few}
use Rattle.values.proofs.numbers.number_length.Goals as goal

pub overflow_add-result : goal.overflow_add-result
overflow_add-result c = omega (arith, c.thousandths_length.ensures, below_few c.args.c)

pub returns-then-c-lt-NUMBER_BASE : goal.returns-then-c-lt-NUMBER_BASE
returns-then-c-lt-NUMBER_BASE c = search (lengths, rules)

pub returns : goal.returns
returns c = search (lengths, rules)
