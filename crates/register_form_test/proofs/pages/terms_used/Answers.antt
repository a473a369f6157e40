use borrow.Author.Rules.{rules}
use Rattle.buffer.proofs.Testing.{tests}
use Rattle.register_form_test.proofs.Loops.{loops}
use Rattle.register_form_test.proofs.PageWays.{pages}
use Rattle.register_form_test.proofs.PageWays.{set_short, set_here, set_end}
use Rattle.register_form_test.proofs.pages.terms_used.Goals as goal

pub returns-then-last-n : goal.returns-then-last-n
returns-then-last-n c = search (set_short, rules)

pub loop-f-preserved : goal.loop-f-preserved
loop-f-preserved c = search (pages, set_here, loops, tests, rules)

pub returns : goal.returns
returns c = search (set_end, rules)

pub loop-f-init : goal.loop-f-init
loop-f-init c = search (pages, loops, tests, rules)
