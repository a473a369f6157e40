use native.Mathlib.Omega.{arith}
use Rattle.query_text_pieces.proofs.Laws.{split_qualified, split_bare, part_fits}
use Rattle.query_text_pieces.proofs.split_at.Goals as goal

pub returns-in_default : goal.returns-in_default
returns-in_default c = rw c.moved-article.ensures (split_bare c.args.s.now _ c.args.text c.split_reference-split.result c.part.ensures c.split_reference-split.ensures c.in_default.is)

pub returns : goal.returns
returns c = rw (c.moved-article.ensures, c.moved.ensures) (split_qualified c.args.s.now _ c.args.text c.split_reference-split.result c.part.ensures c.split_reference-split.ensures _ c.in-Some.is)
