use Rattle.query_core.proofs.Slots.{puts}
use borrow.Author.Rules.{rules}
use Rattle.query_core.proofs.writing.put_slot.Goals as goal

pub returns : goal.returns
returns c = search (puts, rules)
