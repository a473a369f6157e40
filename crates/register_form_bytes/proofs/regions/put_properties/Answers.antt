use borrow.Author.Rules.{rules}
use Rattle.register_form_bytes.proofs.Looping.{declaring}
use Rattle.register_form_bytes.proofs.regions.put_properties.Goals as goal

pub loop-p-preserved : goal.loop-p-preserved
loop-p-preserved c = search (declaring, rules)

pub returns : goal.returns
returns c = search (declaring, rules)
