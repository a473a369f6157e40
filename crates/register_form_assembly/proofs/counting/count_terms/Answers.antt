use Rattle.register_form_assembly.proofs.Counts.{sized_is}
use Rattle.register_form_assembly.proofs.counting.count_terms.Goals as goal

pub returns-in-Some : goal.returns-in-Some
returns-in-Some c = sized_is _ _ _ _ _ _ _ _ _ c.add_sizes.ensures c.in-Some.is c.add_capped.ensures c.put_sizes.ensures.tabled
