use Rattle.pageset.proofs.Laws.{word_there, mark_there, mark_out}
use Rattle.pageset.proofs.mark_at.Goals as goal

pub bounds-words-k : goal.bounds-words-k
bounds-words-k c = word_there c.args.words.now c.args.page c.if-page-k.true

pub returns-then-page-k : goal.returns-then-page-k
returns-then-page-k c = mark_there _ _ c.if-page-k.true

pub returns-else-page-k : goal.returns-else-page-k
returns-else-page-k c = mark_out _ _ c.if-page-k.false
