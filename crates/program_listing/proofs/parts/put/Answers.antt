use borrow.Author.Rules.{rules}
use Rattle.program_listing.proofs.Appending.{append-ways}
use Rattle.program_listing.proofs.parts.put.Goals as goal

pub loop-b-init : goal.loop-b-init
loop-b-init c = search (append-ways, rules)

pub loop-b-preserved : goal.loop-b-preserved
loop-b-preserved c = search (append-ways, rules)

pub returns : goal.returns
returns c = search (append-ways, rules)
