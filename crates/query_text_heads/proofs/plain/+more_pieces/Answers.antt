use Rattle.query_text_heads.proofs.Bodies.{pieces_on, pieces_end, pieces_not, fall_pieces}
use Rattle.query_text_heads.proofs.plain.+more_pieces.Goals as goal

pub more_pieces-requires : goal.more_pieces-requires
more_pieces-requires t c = (fall_pieces c.args.s.now c.args.at _ _ _ _ c.piece_at-next.result.0 c.after.ensures c.in-Some.is c.piece_at-next.ensures c.decreases, tt)

pub returns-in-Some : goal.returns-in-Some
returns-in-Some t c = rw c.again.ensures (pieces_on c.args.s.now c.args.at _ _ c.args.categories _ _ _ _ _ _ _ _ c.piece_at-next.result.0 _ c.after.ensures c.in-Some.is c.piece_at-next.ensures c.piece-put.ensures c.add-joined.ensures c.more_pieces.ensures)

pub returns-in_err-close : goal.returns-in_err-close
returns-in_err-close t c = rw c.from_residual.ensures (pieces_not c.args.s.now c.args.at _ _ c.args.categories _ _ c.after.ensures c.in_default.is c.after-2.ensures c.in_err-close.was)

pub returns : goal.returns
returns t c = pieces_end c.args.s.now c.args.at _ _ c.args.categories _ _ c.after.ensures c.in_default.is c.after-2.ensures _ c.in_ok-close.was
