use mathlib.Core.Path.{◌≡◌, ap, ◌∙◌}
use Rattle.register_form.specs.Form.{text_at}
use Rattle.buffer.proofs.Testing.{all_more}
use Rattle.register_form_test.proofs.Loops.{written_more}
use Rattle.register_form_test.specs.Stages.{class_of}
use borrow.Author.Rules.{rules}
use Rattle.buffer.proofs.Testing.{tests}
use Rattle.register_form_test.proofs.Loops.{loops}
use Rattle.register_form_test.proofs.TextWays.{texts}
use Rattle.register_form_test.proofs.texts.texts_ok.Goals as goal

pub class_of-requires : goal.class_of-requires
class_of-requires c = c.byte_rules-rules.ensures

pub loop-x-preserved : goal.loop-x-preserved
loop-x-preserved c =
    let k : c.class_of.result ≡ class_of (text_at c.args.h.now c.loop-x.x) = c.class_of.ensures ∙ ap class_of c.text_at-t.ensures in
    (search (all_more, rules), search (written_more, rules))

pub returns : goal.returns
returns c = search (texts, loops, tests, rules)

pub loop-x-init : goal.loop-x-init
loop-x-init c = search (texts, loops, tests, rules)
