use mathlib.Core.Path.{ap, ◌∙◌}
use Rattle.language.specs.RegisterText.{same_declared}
use Rattle.register_text_entries.specs.Items.{entry_in}
use Rattle.register_text_entries.specs.Table.{entry_at}
use Rattle.register_text_verdict.proofs.tests.is_like.Goals as goal

pub returns : goal.returns
returns c =
    let s = c.args.s.now in
    c.are_alike.ensures ∙ ap (λ e. same_declared e (entry_in s c.args.item)) (c.item_at.ensures s ∙ ap (entry_at s c.args.t.now) (c.from.ensures ∙ c.get_or.ensures))
