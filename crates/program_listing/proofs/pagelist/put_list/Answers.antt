use Rattle.program_listing.proofs.Lines.{list_done}
use Rattle.program_listing.proofs.pagelist.put_list.Goals as goal

-- lost: slice-aggregate-put : tie.Need-slice-aggregate-put
-- slice-aggregate-put c = search rules

pub returns : goal.returns
returns c = list_done _ _ _ _ _ _ _ _ _ _ _ _ _ _ c.part-h.ensures c.page_count-n.ensures c.put-a.ensures c.put_decimal-b.ensures c.put_byte-c.ensures c.put_lines.ensures
