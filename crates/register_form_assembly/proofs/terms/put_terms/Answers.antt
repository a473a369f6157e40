use Rattle.register_form_assembly.proofs.Coding.{terms_more, terms_all}
use native.Mathlib.Omega.{arith}
use Rattle.register_form_assembly.proofs.terms.put_terms.Goals as goal

pub loop-f-preserved : goal.loop-f-preserved
loop-f-preserved c = terms_more _ _ _ _ _ _ _ _ c.loop-f.invariant _ _ _ _ _ c.loop-f-test.true c.from-k.ensures c.get_or-group.ensures c.get_or.ensures c.code_by.ensures c.put_term.ensures

pub returns-clause-terms : goal.returns-clause-terms
returns-clause-terms c = terms_all _ _ _ _ _ _ _ _ c.loop-f.invariant (omega arith)
