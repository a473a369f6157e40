use Rattle.std.proofs.Common.{rules}
use Rattle.register_form_view.specs.View.{Tells}
use Rattle.register_form_view.proofs.pages.pages_within.Goals as goal

pub returns : goal.returns
unfolding Tells
returns c = c.pages_passing.ensures _ (λ f r b e. search rules)
