use mathlib.Core.Path.{◌∙◌}
use Rattle.register_form_view.proofs.Holding.{value_pages}
use Rattle.register_form_view.proofs.pages.pages_with_value.Goals as goal

pub returns : goal.returns
returns c = λ places R o. c.pages_marked.ensures ∙ value_pages o _ _ (c.property_range-range.ensures places R o) _ _ _ c.rank_for-rank.ensures _ c.terms_passing-terms.ensures
