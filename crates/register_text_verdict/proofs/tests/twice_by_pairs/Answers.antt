use mathlib.Core.Path.{◌∙◌}
use native.Mathlib.Omega.{arith}
use Rattle.std.proofs.Common.{rules, tests}
use Rattle.std.proofs.lemmas.Iterator.{YieldsList-from_range}
use Rattle.std.proofs.lemmas.Iterator.Search.{any_from_yields_List}
use Rattle.language.specs.RegisterText.{same_declared}
use lib.ListN.{get_or}
use Rattle.register_text_entries.specs.Table.{entry_at}
use Rattle.register_text_verdict.specs.Rows.{any_to}
use Rattle.register_text_verdict.proofs.Loops.{any_range, any_twice}
use Rattle.register_text_verdict.proofs.tests.twice_by_pairs.Goals as goal

pub returns : goal.returns
returns c =
    let a = c.args in
    any_from_yields_List (λ k. any_to k (λ i. same_declared (entry_at a.s.now a.t.now (get_or a.rows.now i 0)) (entry_at a.s.now a.t.now (get_or a.rows.now k 0)))) _ _ _ c.any.ensures.ran (YieldsList-from_range 0 a.m a.m (cc) (omega arith)) (λ x b q k. search (rules, tests))
    ∙ any_range _ _
    ∙ any_twice _ _
