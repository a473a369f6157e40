use native.Mathlib.Omega.{arith}
use Rattle.register_form_assembly.proofs.Keepings.{paging_none, paging_more, paging_all}
use Rattle.register_form_assembly.proofs.keeping.keep_forms.Goals as goal

pub loop-page-init : goal.loop-page-init
loop-page-init c = paging_none _ _ _ _ _ _ _

pub loop-page-preserved : goal.loop-page-preserved
loop-page-preserved c = paging_more _ _ _ _ _ _ _ _ _ _ _ _ c.loop-page.invariant _ _ _ _ _ _ _ _ _ _ _ _ c.loop-page-test.true c.from.ensures c.get_or-from.ensures c.from-in-loop-page.ensures c.get_or-to.ensures c.keep_pass-some.ensures c.keep_pass-count.ensures c.from-in-loop-page-2.ensures c.put.ensures
