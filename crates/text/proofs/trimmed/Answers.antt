use native.Mathlib.Omega.{arith}
use borrow.Author.Rules.{rules}
use Rattle.text.proofs.Trim.{trimmed_past, blanks_fit, trimmed_is}
use Rattle.text.proofs.trimmed.Goals as goal

pub returns-then-s-start : goal.returns-then-s-start
returns-then-s-start c = search (trimmed_past, rules)

pub overflow_add-result : goal.overflow_add-result
overflow_add-result c =
    omega (arith, blanks_fit c.args.s.now _ c.args.start c.args.len _ c.if-s-start.false c.part-t.ensures c.scan-a.ensures)

pub returns : goal.returns
returns c = search trimmed_is
