use borrow.Author.Rules.{rules}
use native.Mathlib.Omega.{arith}
use Rattle.register_form_assembly.proofs.Counts.{sized_more, sized_all}
use Rattle.register_form_assembly.proofs.counting.add_sizes.Goals as goal

pub loop-i-preserved : goal.loop-i-preserved
loop-i-preserved c = (search rules, sized_more _ _ _ _ _ _ _ _ _ _ _ _ _ _ c.loop-i.invariant.1 c.loop-i-test.true c.from.ensures c.get_or-t.ensures c.has_size-all.ensures c.from-in-loop-i.ensures c.get_or.ensures c.from-sum-in-loop-i.ensures)

pub returns-then-all : goal.returns-then-all
returns-then-all c = sized_all _ _ _ _ _ _ _ _ c.loop-i.invariant.1 (omega arith) c.if-all.true
