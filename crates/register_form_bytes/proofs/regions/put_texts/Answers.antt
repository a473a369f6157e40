use borrow.Author.Rules.{rules}
use Rattle.register_form_bytes.proofs.Looping.{laying}
use Rattle.register_form_bytes.proofs.regions.put_texts.Goals as goal

pub returns-then-h-to : goal.returns-then-h-to
returns-then-h-to c = search (laying, rules)

pub loop-i-preserved : goal.loop-i-preserved
loop-i-preserved c = search (laying, rules)

pub returns : goal.returns
returns c = search (laying, rules)
