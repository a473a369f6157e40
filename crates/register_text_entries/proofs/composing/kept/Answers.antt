use borrow.Author.Rules.{rules}
use Rattle.register_text_entries.proofs.Copying.{parts}
use Rattle.register_text_entries.proofs.composing.kept.Goals as goal

pub returns-then-has : goal.returns-then-has
returns-then-has c = search (parts, rules)

pub returns-else-has : goal.returns-else-has
returns-else-has c = search (parts, rules)
