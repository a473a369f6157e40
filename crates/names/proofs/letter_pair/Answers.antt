use Rattle.names.proofs.Letters.{pair_there, pair_missing}
use Rattle.names.proofs.letter_pair.Goals as goal

-- src/lib.rt:35:1
pub returns-then-a-b : goal.returns-then-a-b
returns-then-a-b c = pair_there _ _ _ _ c.from.ensures c.from-2.ensures c.if-a-b.true

-- src/lib.rt:35:1
pub returns-else-a-b : goal.returns-else-a-b
returns-else-a-b c = pair_missing _ _ _ _ c.from.ensures c.from-2.ensures c.if-a-b.false
