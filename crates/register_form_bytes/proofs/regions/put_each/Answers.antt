use borrow.Author.Rules.{rules}
use Rattle.register_form_bytes.proofs.Looping.{numbering}
use Rattle.register_form_bytes.proofs.regions.put_each.Goals as goal

pub loop-i-preserved : goal.loop-i-preserved
loop-i-preserved c = search (numbering, rules)

pub returns : goal.returns
returns c = search (numbering, rules)
