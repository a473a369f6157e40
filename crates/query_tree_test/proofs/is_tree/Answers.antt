use mathlib.Core.Path.{◌∙◌}
use native.Mathlib.Omega.{arith}
use Rattle.query_tree_test.proofs.Answers.{held_short, held_inexact, held_tried}
use Rattle.query_tree_test.proofs.is_tree.Goals as goal

pub returns-then-h-lt-TREE_BYTES : goal.returns-then-h-lt-TREE_BYTES
returns-then-h-lt-TREE_BYTES c = held_short c.args.h.now (λ j. omega (arith, c.type_inv.h j)) c.if-h-lt-TREE_BYTES.true

pub returns-then-is_exact : goal.returns-then-is_exact
returns-then-is_exact c = held_tried c.args.h.now (λ j. omega (arith, c.type_inv.h j)) c.if-h-lt-TREE_BYTES.false _ c.part-g.ensures _ c.is_exact.ensures c.if-is_exact.true _ c.passes.ensures

pub returns-else-is_exact : goal.returns-else-is_exact
returns-else-is_exact c = c.if-is_exact.false ∙ held_inexact c.args.h.now (λ j. omega (arith, c.type_inv.h j)) c.if-h-lt-TREE_BYTES.false _ c.part-g.ensures _ c.is_exact.ensures c.if-is_exact.false
