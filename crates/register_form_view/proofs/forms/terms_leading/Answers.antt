use Rattle.std.proofs.Common.{rules}
use Rattle.register_form_view.specs.View.{Tells}
use Rattle.register_form_view.proofs.forms.terms_leading.Goals as goal

pub returns : goal.returns
unfolding Tells
returns c = c.terms_where.ensures _ (λ f r b e. search rules)
