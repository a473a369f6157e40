use Rattle.std.proofs.Common.{rules}
use Rattle.register_form_view.proofs.Ranging.{range_other}
use Rattle.register_form_view.proofs.ranges.other_kind.Goals as goal

pub returns : goal.returns
returns c = range_other _ _ _ _ _ c.property_range-range.ensures (search rules)
