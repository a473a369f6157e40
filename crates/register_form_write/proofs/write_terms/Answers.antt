use mathlib.Core.Path.{refl}
use Rattle.register_form_write.proofs.Closing.{terms_written}
use Rattle.register_form_write.proofs.write_terms.Goals as goal

pub returns : goal.returns
returns c = terms_written _ _ _ _ _ _ _ _ _ _ _ _ _ _ c.put_terms.ensures.codes c.put_terms.ensures.terms c.put_term_starts.ensures c.number_of-count.ensures refl c.write_kept.ensures
