use Rattle.register_form_test.proofs.Ways.{zeros_none}
use borrow.Author.Rules.{rules}
use Rattle.register_form_test.proofs.layout.zeros_behind.Goals as goal

pub returns-then-room-n : goal.returns-then-room-n
returns-then-room-n c = search (zeros_none, rules)
