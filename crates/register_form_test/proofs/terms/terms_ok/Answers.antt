use Rattle.register_form_test.proofs.TermWays.{term_more, text_of, bytes_of}
use Rattle.register_form_test.proofs.Loops.{written_more}
use borrow.Author.Rules.{rules}
use Rattle.buffer.proofs.Testing.{tests}
use Rattle.register_form_test.proofs.Loops.{loops}
use Rattle.register_form_test.proofs.terms.terms_ok.Goals as goal

pub loop-f-preserved : goal.loop-f-preserved
loop-f-preserved c = (search (term_more, rules), search (written_more, text_of, rules), search (written_more, bytes_of, rules))

pub returns : goal.returns
returns c = search (loops, tests, rules)

pub loop-f-init : goal.loop-f-init
loop-f-init c = search (loops, tests, rules)
