use mathlib.Core.Path.{◌∙◌}
use Rattle.register_form_view.proofs.Holding.{link_pages}
use Rattle.register_form_view.proofs.pages.pages_with_link.Goals as goal

pub returns : goal.returns
returns c = λ R o inner a. c.pages_marked.ensures ∙ link_pages o _ _ (c.property_range-range.ensures _ R o) _ inner a _ c.terms_leading-terms.ensures
