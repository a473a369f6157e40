use borrow.Author.Rules.{rules}
use Rattle.register_text_entries.proofs.Cells.{codes}
use Rattle.register_text_entries.proofs.table.kind_of.Goals as goal

pub returns-then-code-lt4 : goal.returns-then-code-lt4
returns-then-code-lt4 c = search (codes, rules)
