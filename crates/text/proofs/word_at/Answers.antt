use lib.ListN.{drop}
use Rattle.text.proofs.Laws.{same_unlike}
use Rattle.text.proofs.Library.{starts_front}
use Rattle.text.proofs.word_at.Goals as goal

pub returns-then-t-w : goal.returns-then-t-w
returns-then-t-w c = rw (← same_unlike _ _ c.if-t-w.true, c.part-t.ensures) (starts_front c.args.w.now (drop c.args.at c.args.s.now))

pub returns : goal.returns
returns c = rw (c.all_same.ensures, c.part-t.ensures) (starts_front _ _)
