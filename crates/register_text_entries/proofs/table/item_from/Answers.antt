use Rattle.register_text_entries.specs.Table.{entry_from}
use Rattle.register_text_entries.proofs.table.item_from.Goals as goal

pub returns : goal.returns
unfolding entry_from
returns c s = rw (c.tag_of.ensures, c.kind_of.ensures)
