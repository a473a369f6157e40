use Rattle.query_text_pieces.proofs.Laws.{reads_bare, reads_namespace, reads_reference}
use Rattle.query_text_pieces.proofs.read_piece.Goals as goal

pub returns-in_default : goal.returns-in_default
returns-in_default c h = reads_bare c.args.s.now c.args.p c.args.split h.is _ c.part-name.ensures _ c.is_name-named.ensures c.in_default.is _ c.then_some.ensures

pub returns-then-is_equal-same_bytes : goal.returns-then-is_equal-same_bytes
returns-then-is_equal-same_bytes c h =
    reads_namespace c.args.s.now c.args.p c.args.split h.is _ c.part-name.ensures _ c.is_name-named.ensures _ c.in-Some.is _ _ _ c.is_equal.ensures c.same_bytes.ensures _ c.part.ensures c.is_namespace-spaced.ensures c.if-is_equal-same_bytes.true _ c.then_some-then-is_equal-same_bytes.ensures

pub returns-else-is_equal-same_bytes : goal.returns-else-is_equal-same_bytes
returns-else-is_equal-same_bytes c h =
    reads_reference c.args.s.now c.args.p c.args.split h.is _ c.part-name.ensures _ c.is_name-named.ensures _ c.in-Some.is _ _ _ c.is_equal.ensures c.same_bytes.ensures _ c.part.ensures c.is_namespace-spaced.ensures c.if-is_equal-same_bytes.false _ c.then_some-else-is_equal-same_bytes.ensures
