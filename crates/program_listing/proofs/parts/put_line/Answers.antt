use Rattle.program_listing.proofs.Appending.{appends_line}
use Rattle.program_listing.proofs.parts.put_line.Goals as goal

pub returns : goal.returns
returns c =
    appends_line _ _ _ _ _ _ _ _ _ _ _ _ _ _ _ _ _ c.put_decimal-a.ensures c.put_byte-b.ensures c.put-c.ensures c.put_byte-d.ensures c.put-e.ensures c.put_byte.ensures
