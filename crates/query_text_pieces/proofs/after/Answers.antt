use native.Mathlib.Omega.{arith}
use Rattle.query_text_pieces.proofs.Laws.{after_yes, after_no, after_ends}
use Rattle.query_text_pieces.proofs.after.Goals as goal

pub overflow_add-result : goal.overflow_add-result
overflow_add-result c = omega (arith, after_ends c.args.s.now c.args.w.now c.args.at _ c.word_at.ensures c.if-word_at.true)

pub returns-then-word_at : goal.returns-then-word_at
returns-then-word_at c = after_yes _ _ _ _ c.word_at.ensures c.if-word_at.true

pub returns-else-word_at : goal.returns-else-word_at
returns-else-word_at c = after_no _ _ _ _ c.word_at.ensures c.if-word_at.false
