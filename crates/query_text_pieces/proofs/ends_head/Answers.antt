use Rattle.query_text_pieces.specs.Places.{from}
use Rattle.query_text_pieces.proofs.ends_head.Goals as goal

pub returns : goal.returns
unfolding from
returns c = rw (← c.word_at.ensures, ← c.word_at-2.ensures, ← c.word_at-3.ensures)
