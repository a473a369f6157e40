use Rattle.register_join_draft.proofs.Writing.{forms_none, forms_next, forms_all}
use Rattle.register_join_draft.proofs.forms.put_each.Goals as goal

pub loop-j-init : goal.loop-j-init
loop-j-init c = forms_none _ _ _ _ _ _

pub loop-j-preserved : goal.loop-j-preserved
loop-j-preserved c = forms_next _ _ _ _ _ _ _ _ _ _ _ _ _ _ c.loop-j.invariant c.loop-j-test.true c.from.ensures c.form_at.ensures c.place_behind.ensures c.put.ensures c.next-n.ensures

pub returns : goal.returns
returns c = forms_all _ _ _ _ _ _ _ _ _ c.loop-j.invariant c.loop-j-test.false
