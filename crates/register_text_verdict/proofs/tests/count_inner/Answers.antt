use mathlib.Core.List.{[]}
use mathlib.Core.Path.{◌∙◌}
use native.Mathlib.Omega.{arith}
use Rattle.std.proofs.Common.{rules, tests}
use Rattle.std.proofs.lemmas.Iterator.{YieldsList-from_range}
use Rattle.std.proofs.lemmas.Iterator.Consumers.{YieldsList-from_filter, count_from_yields_List}
use Rattle.language.specs.RegisterText.{is_inner}
use Rattle.register_text_entries.specs.Table.{entry_at}
use Rattle.register_text_verdict.proofs.Loops.{count_range}
use Rattle.register_text_verdict.proofs.tests.count_inner.Goals as goal

pub returns : goal.returns
returns c =
    let a = c.args in
    count_from_yields_List c.filter.result _ c.count.ensures.ran (YieldsList-from_filter _ (λ i. is_inner (entry_at [] a.t.now i)) (YieldsList-from_range 0 a.n a.n (cc) (omega arith)) c.filter.ensures.closure (λ x b q k. search (rules, tests)))
    ∙ count_range _ _
