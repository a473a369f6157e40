use native.Mathlib.Omega.{arith}
use borrow.Author.Tests.{not-false}
use Rattle.register_text_verdict.proofs.Counted.{twice_sorted}
use Rattle.register_text_verdict.proofs.tests.twice_by_sorting.Goals as goal

pub overflow_cast-m : goal.overflow_cast-m
overflow_cast-m c = omega (arith, (c.list_names.ensures (not-false _ c.if-not-list_names.false-raw)).room, c.starts-2-1.given)

pub returns : goal.returns
returns c = let few = (c.list_names.ensures (not-false _ c.if-not-list_names.false-raw)).room in let size = c.starts-2-1.given in twice_sorted _ _ _ _ _ _ _ _ _ _ _ (c.list_names.ensures (not-false _ c.if-not-list_names.false-raw)) c.build.ensures (omega arith) (omega arith)
