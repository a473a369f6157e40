use borrow.Author.Rules.{rules}
use Rattle.register_form_bytes.proofs.Looping.{picking}
use Rattle.register_form_bytes.proofs.regions.put_picked.Goals as goal

pub loop-i-preserved : goal.loop-i-preserved
loop-i-preserved c = search (picking, rules)

pub returns : goal.returns
returns c = search (picking, rules)
