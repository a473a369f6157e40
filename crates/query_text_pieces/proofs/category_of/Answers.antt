use Rattle.query_text_pieces.proofs.Laws.{category_bare, category_yes, category_no}
use Rattle.query_text_pieces.proofs.category_of.Goals as goal

pub returns-in_err-n : goal.returns-in_err-n
returns-in_err-n c h = rw c.from_residual.ensures (category_bare c.args.s.now c.args.p c.args.split h.is c.in_err-n.was)

pub returns-then-is_equal-same_bytes : goal.returns-then-is_equal-same_bytes
returns-then-is_equal-same_bytes c h = category_yes c.args.s.now c.args.p c.args.split h.is _ c.in_ok-n.was _ _ c.is_equal.ensures _ c.part.ensures c.same_bytes.ensures c.if-is_equal-same_bytes.true

pub returns-else-is_equal-same_bytes : goal.returns-else-is_equal-same_bytes
returns-else-is_equal-same_bytes c h = category_no c.args.s.now c.args.p c.args.split h.is _ c.in_ok-n.was _ _ c.is_equal.ensures _ c.part.ensures c.same_bytes.ensures c.if-is_equal-same_bytes.false
