use borrow.Author.Rules.{rules}
use Rattle.register_text_entries.proofs.Cells.{codes}
use Rattle.register_text_entries.proofs.table.code_of.Goals as goal

pub returns-in-Prop : goal.returns-in-Prop
returns-in-Prop c = search (codes, rules)
