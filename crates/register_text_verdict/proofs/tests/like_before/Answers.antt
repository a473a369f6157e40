use mathlib.Core.Path.{◌≡◌, ap, ◌∙◌}
use native.Mathlib.Omega.{arith}
use Rattle.std.proofs.Common.{rules, tests}
use Rattle.std.proofs.lemmas.Iterator.{YieldsList-from_range}
use Rattle.std.proofs.lemmas.Iterator.Search.{any_from_yields_List}
use Rattle.language.specs.RegisterText.{same_declared}
use lib.ListN.{get_or}
use Rattle.register_text_entries.specs.Items.{entry_in}
use Rattle.register_text_entries.specs.Table.{entry_at}
use Rattle.register_text_verdict.specs.Rows.{any_to}
use Rattle.register_text_verdict.proofs.Loops.{any_range}
use Rattle.register_text_verdict.proofs.tests.like_before.Goals as goal

pub returns : goal.returns
returns c =
    let a = c.args in
    let s = a.s.now in
    let k : entry_in s c.item_at-this.result ≡ entry_at s a.t.now (get_or a.rows.now a.k 0) = c.item_at-this.ensures s ∙ ap (entry_at s a.t.now) (c.from.ensures ∙ c.get_or.ensures) in
    any_from_yields_List (λ i. same_declared (entry_at s a.t.now (get_or a.rows.now i 0)) (entry_in s c.item_at-this.result)) _ _ _ c.any.ensures.ran (YieldsList-from_range 0 a.k a.k (cc) (omega arith)) (λ x b q k. search (rules, tests))
    ∙ any_range _ _
    ∙ ap (λ e. any_to a.k (λ i. same_declared (entry_at s a.t.now (get_or a.rows.now i 0)) e)) k
