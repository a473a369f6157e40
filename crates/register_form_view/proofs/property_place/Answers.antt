use Rattle.register_form_view.proofs.Names.{passed_none, place_here, place_more, place_none}
use Rattle.register_form_view.proofs.property_place.Goals as goal

pub loop-p-init : goal.loop-p-init
loop-p-init c = passed_none _ _

pub returns-then-same_bytes : goal.returns-then-same_bytes
returns-then-same_bytes c = place_here _ _ _ _ _ _ _ c.property_count-n.ensures c.loop-p-test.true c.loop-p.invariant c.name_number.ensures c.name_in.ensures c.same_bytes.ensures c.if-same_bytes.true

pub loop-p-preserved : goal.loop-p-preserved
loop-p-preserved c = place_more _ _ _ _ _ _ _ c.property_count-n.ensures c.loop-p-test.true c.loop-p.invariant c.name_number.ensures c.name_in.ensures c.same_bytes.ensures c.if-same_bytes.false

pub returns : goal.returns
returns c = place_none _ _ _ _ c.property_count-n.ensures c.loop-p-test.false c.loop-p.invariant
