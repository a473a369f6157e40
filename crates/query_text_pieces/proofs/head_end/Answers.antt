use mathlib.Core.Path.{refl, sym, ◌∙◌}
use Rattle.query_text_pieces.proofs.Laws.{head_here, head_none, head_step, head_over}
use Rattle.std.proofs.Common.{rules}
use Rattle.query_text_pieces.proofs.head_end.Goals as goal

pub loop-i-init : goal.loop-i-init
loop-i-init c = refl

pub returns-then-word_at : goal.returns-then-word_at
returns-then-word_at c = head_here _ _ _ c.word_at.ensures c.if-word_at.true ∙ sym c.loop-i.invariant

pub returns-then-ends_head : goal.returns-then-ends_head
returns-then-ends_head c = head_none _ _ _ c.word_at.ensures _ c.ends_head.ensures c.if-word_at.false c.if-ends_head.true ∙ sym c.loop-i.invariant

pub loop-i-preserved : goal.loop-i-preserved
loop-i-preserved c = c.loop-i.invariant ∙ head_step _ _ _ c.word_at.ensures _ c.ends_head.ensures c.if-word_at.false (search rules) c.if-ends_head.false

pub returns : goal.returns
returns c = head_over _ _ (search rules) ∙ sym c.loop-i.invariant
