use Rattle.register_form_assembly.proofs.Coding.{filling_more}
use Rattle.register_form_assembly.proofs.Counts.{size_made}
use Rattle.register_form_assembly.proofs.counting.put_sizes.Goals as goal

pub loop-t-preserved : goal.loop-t-preserved
loop-t-preserved c = filling_more _ _ _ _ _ _ _ c.loop-t.invariant c.from.ensures (size_made _ _ _ _ c.term_bytes.ensures c.add_capped.ensures) c.put.ensures
