use lib.ListN.{length}
use Rattle.query_text_pieces.specs.Places.{from}
use Rattle.query_text_heads.proofs.plain.+more_pieces.Given as goal

abbrev pub decreases-more_pieces : goal.decreases-more_pieces
decreases-more_pieces l = length (from l.s.now l.at)
