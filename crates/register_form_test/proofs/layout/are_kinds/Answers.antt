use borrow.Author.Rules.{rules}
use Rattle.buffer.proofs.Testing.{tests}
use Rattle.register_form_test.proofs.Loops.{loops}
use Rattle.register_form_test.proofs.layout.are_kinds.Goals as goal

pub loop-p-preserved : goal.loop-p-preserved
loop-p-preserved c = search (loops, tests, rules)

pub returns : goal.returns
returns c = search (loops, tests, rules)

pub loop-p-init : goal.loop-p-init
loop-p-init c = search (loops, tests, rules)
