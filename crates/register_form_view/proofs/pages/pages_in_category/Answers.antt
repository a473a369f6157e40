use mathlib.Core.Path.{◌∙◌}
use Rattle.register_form_view.proofs.Holding.{category_pages}
use Rattle.register_form_view.proofs.pages.pages_in_category.Goals as goal

pub returns : goal.returns
returns c = λ places R o. c.pages_within.ensures ∙ category_pages o _ _ (c.category_range.ensures places R o)
