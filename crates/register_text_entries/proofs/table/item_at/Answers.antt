use mathlib.Core.Path.{◌∙◌}
use Rattle.register_text_entries.specs.Table.{entry_at}
use Rattle.register_text_entries.proofs.Cells.{row_past}
use Rattle.register_text_entries.proofs.table.item_at.Goals as goal

pub returns-then-t-i : goal.returns-then-t-i
returns-then-t-i c s = c.item_from.ensures s ∙ row_past _ _ s c.if-t-i.true

pub returns : goal.returns
unfolding entry_at
returns c s = c.item_from-2.ensures s ∙ rw (c.from.ensures, c.from-2.ensures, c.from-3.ensures, c.from-4.ensures, c.from-5.ensures, c.get_or.ensures, c.get_or-2.ensures, c.get_or-3.ensures, c.get_or-4.ensures, c.get_or-5.ensures)
