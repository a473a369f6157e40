use borrow.Author.Rules.{rules}
use Rattle.buffer.proofs.Testing.{tests}
use Rattle.register_form_test.proofs.Loops.{loops}
use Rattle.register_form_test.proofs.layout.never_falls.Goals as goal

pub loop-i-preserved : goal.loop-i-preserved
loop-i-preserved c = search (loops, tests, rules)

pub returns : goal.returns
returns c = search (loops, tests, rules)

pub loop-i-init : goal.loop-i-init
loop-i-init c = search (loops, tests, rules)
