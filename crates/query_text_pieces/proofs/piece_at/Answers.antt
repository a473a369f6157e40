use mathlib.Core.Path.{◌∙◌}
use native.Mathlib.Omega.{arith}
use Rattle.query_text_pieces.proofs.Laws.{comparator_ends, piece_is}
use Rattle.query_text_pieces.proofs.piece_at.Goals as goal

pub overflow_add-start : goal.overflow_add-start
overflow_add-start c = omega (arith, comparator_ends c.args.s.now c.scan-begin.result c.from.result c.comparator_at-comparator.result c.comparator_at-comparator.ensures (c.from.ensures ∙ c.word_length.ensures))

pub returns : goal.returns
returns c = piece_is _ _ _ _ c.comparator_at-comparator.ensures (c.from.ensures ∙ c.word_length.ensures) _ _ _ c.scan-begin.ensures c.scan-end.ensures c.trimmed-text.ensures
