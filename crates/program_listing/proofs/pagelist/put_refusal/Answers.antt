use Rattle.program_listing.proofs.Lines.{refusal_done}
use Rattle.program_listing.proofs.pagelist.put_refusal.Goals as goal

-- lost: slice-aggregate-put : tie.Need-slice-aggregate-put
-- slice-aggregate-put c = search rules

pub returns : goal.returns
returns c = refusal_done _ _ _ _ _ _ _ _ c.put-a.ensures c.put_decimal-b.ensures c.put_byte.ensures
