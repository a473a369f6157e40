use mathlib.Core.Path.{◌∙◌}
use Rattle.register_form_view.proofs.Holding.{property_pages}
use Rattle.register_form_view.proofs.pages.pages_with_property.Goals as goal

pub returns : goal.returns
returns c = λ places R o. c.pages_within.ensures ∙ property_pages o _ _ (c.property_range.ensures places R o)
