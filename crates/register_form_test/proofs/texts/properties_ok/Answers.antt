use Rattle.register_form_test.proofs.Loops.{written_more}
use Rattle.register_form_test.proofs.TextWays.{property_more, property_sum, properties_end, properties_fail}
use borrow.Author.Rules.{rules}
use Rattle.buffer.proofs.Testing.{tests}
use Rattle.register_form_test.proofs.Loops.{loops}
use Rattle.register_form_test.proofs.TextWays.{texts}
use Rattle.register_form_test.proofs.texts.properties_ok.Goals as goal

pub loop-p-preserved : goal.loop-p-preserved
loop-p-preserved c = (search (property_more, rules), search (property_sum, rules), search (written_more, rules), search rules)

pub returns-then-ok : goal.returns-then-ok
returns-then-ok c = search (properties_end, rules)

pub returns-else-ok : goal.returns-else-ok
returns-else-ok c = search (properties_fail, rules)

pub loop-p-init : goal.loop-p-init
loop-p-init c = search (texts, loops, tests, rules)
