use Rattle.query_text_heads.proofs.Bodies.{plain_categories, plain_identifiers}
use Rattle.query_text_heads.proofs.plain.plain.Goals as goal

pub returns-in-Some : goal.returns-in-Some
returns-in-Some c = rw c.again.ensures (plain_categories c.args.s.now c.args.at c.args.depth _ _ _ _ _ _ _ c.piece_at-next.result.0 c.piece_at-next.result.1 _ c.piece_at-next.ensures c.flag-flagged.ensures (c.category_of.ensures c.split_at-split.ensures) _ c.in-Some.is c.category-put.ensures c.more_pieces.ensures)

pub returns-in-None : goal.returns-in-None
returns-in-None c = rw c.again-in-None.ensures (plain_identifiers c.args.s.now c.args.at c.args.depth _ _ _ _ _ _ _ c.piece_at-next.result.0 c.piece_at-next.result.1 _ c.piece_at-next.ensures c.flag-flagged.ensures (c.category_of.ensures c.split_at-split.ensures) c.in-None.is c.identifier-put.ensures c.more_pieces-in-None.ensures)
