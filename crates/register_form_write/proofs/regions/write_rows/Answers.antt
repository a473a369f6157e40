use Rattle.register_form_write.proofs.Placing.{rows_put}
use Rattle.register_form_write.proofs.regions.write_rows.Goals as goal

pub returns : goal.returns
returns c = rows_put _ _ _ _ _ _ _ _ _ _ _ c.put_counts.ensures c.put_properties.ensures c.put_picked.ensures c.put_numbers.ensures c.put_numbers-2.ensures
