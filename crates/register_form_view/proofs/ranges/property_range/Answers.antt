use native.Mathlib.Omega.{arith}
use Rattle.register_form_view.proofs.Ranging.{range_undeclared, range_property}
use Rattle.register_form_view.proofs.ranges.property_range.Goals as goal

pub returns-then-property_count-p : goal.returns-then-property_count-p
returns-then-property_count-p c = range_undeclared _ _ _ _ c.property_place-p.ensures c.property_count.ensures _ (λ s. omega arith) c.no_terms.ensures

pub returns-then-p-ge254 : goal.returns-then-p-ge254
returns-then-p-ge254 c = range_undeclared _ _ _ _ c.property_place-p.ensures c.property_count.ensures _ (λ s. omega arith) c.no_terms-then-p-ge254.ensures

pub returns : goal.returns
returns c = range_property _ _ _ _ c.property_place-p.ensures c.property_count.ensures _ (omega arith) c.terms_below.ensures c.terms_below-2.ensures c.kind_at.ensures
