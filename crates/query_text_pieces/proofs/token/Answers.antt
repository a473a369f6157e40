use Rattle.query_text_pieces.proofs.Laws.{ways}
use Rattle.query_text_pieces.proofs.token.Goals as goal

pub returns : goal.returns
returns c = search ways
