use Rattle.query_text_heads.proofs.Bodies.{piece_category, piece_identifier}
use Rattle.query_text_heads.proofs.plain.piece.Goals as goal

pub returns-then-categories : goal.returns-then-categories
returns-then-categories c = piece_category c.args.s.now c.args.p _ _ _ _ _ _ c.if-categories.true c.is_equal.ensures c.category.ensures

pub returns-else-categories : goal.returns-else-categories
returns-else-categories c = piece_identifier c.args.s.now c.args.p _ _ _ _ _ c.if-categories.false c.identifier.ensures
