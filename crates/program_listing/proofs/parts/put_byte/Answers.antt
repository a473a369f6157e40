use Rattle.program_listing.proofs.Appending.{byte-ways}
use borrow.Author.Rules.{rules}
use Rattle.program_listing.proofs.parts.put_byte.Goals as goal

pub returns-then-out-at : goal.returns-then-out-at
returns-then-out-at c = search (byte-ways, rules)

pub returns : goal.returns
returns c = search (byte-ways, rules)
