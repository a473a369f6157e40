use mathlib.Core.Path.{refl, ◌∙◌}
use Rattle.std.proofs.Common.{rules}
use Rattle.register_form_view.specs.View.{Tells, name_passes_at}
use Rattle.register_form_view.proofs.Holding.{named_pages}
use Rattle.register_form_view.proofs.pages.pages_named.Goals as goal

pub returns : goal.returns
unfolding Tells
returns c = λ places R o. c.pages_passing.ensures (name_passes_at c.args.h.now c.args.x.now c.rank_of-rank.result c.args.test) (λ f r b e. search rules) ∙ named_pages o c.args.x.now c.args.test _ c.rank_of-rank.ensures _ refl
