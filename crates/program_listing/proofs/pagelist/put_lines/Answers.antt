use borrow.Author.Rules.{rules}
use Rattle.program_listing.proofs.Lines.{line-ways}
use Rattle.program_listing.proofs.pagelist.put_lines.Goals as goal

pub loop-i-init : goal.loop-i-init
loop-i-init c = search (line-ways, rules)

pub loop-i-preserved : goal.loop-i-preserved
loop-i-preserved c = search (line-ways, rules)

pub returns : goal.returns
returns c = search (line-ways, rules)
