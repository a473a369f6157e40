use mathlib.Core.Path.{◌∙◌}
use native.Mathlib.Numerals.{add-one, add-two, add-three, add-four}
use Rattle.register_text_entries.specs.Table.{with_row}
use Rattle.register_text_entries.proofs.Cells.{row_out}
use Rattle.register_text_entries.proofs.table.put_item.Goals as goal

pub returns-then-n-t : goal.returns-then-n-t
unfolding with_row
returns-then-n-t c = c.put-then-n-t-4.ensures ∙ rw (c.put-then-n-t-3.ensures, c.put-then-n-t-2.ensures, c.put-then-n-t.ensures, c.put.ensures, c.code_of.ensures, add-one, add-two, add-three, add-four)

pub returns-else-n-t : goal.returns-else-n-t
returns-else-n-t c = row_out _ _ _ c.if-n-t.false
