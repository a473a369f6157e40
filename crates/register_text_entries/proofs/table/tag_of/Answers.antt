use Rattle.register_text_entries.proofs.Cells.{codes}
use Rattle.register_text_entries.proofs.table.tag_of.Goals as goal

pub returns-in-0 : goal.returns-in-0
returns-in-0 c = search codes

pub returns-in-1 : goal.returns-in-1
returns-in-1 c = search codes

pub returns-in-2 : goal.returns-in-2
returns-in-2 c = search codes

pub returns-in-3 : goal.returns-in-3
returns-in-3 c = search codes

pub returns-in_default : goal.returns-in_default
returns-in_default c = search codes
