use borrow.Author.Rules.{rules}
use Rattle.buffer.proofs.Testing.{tests}
use Rattle.register_form_test.proofs.Loops.{loops}
use Rattle.register_form_test.proofs.PageWays.{pages}
use Rattle.register_form_test.proofs.pages.texts_used.Goals as goal

pub loop-x-preserved : goal.loop-x-preserved
loop-x-preserved c = search (pages, loops, tests, rules)

pub returns : goal.returns
returns c = search (pages, loops, tests, rules)

pub loop-x-init : goal.loop-x-init
loop-x-init c = search (pages, loops, tests, rules)
