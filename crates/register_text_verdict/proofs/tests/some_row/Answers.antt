use mathlib.Core.Path.{◌∙◌}
use native.Mathlib.Omega.{arith}
use Rattle.std.proofs.Common.{rules, tests}
use Rattle.std.proofs.lemmas.Iterator.{YieldsList-from_range}
use Rattle.std.proofs.lemmas.Iterator.Search.{any_from_yields_List}
use Rattle.register_text_entries.specs.Table.{entry_at}
use Rattle.register_text_verdict.specs.Checks.{kinds_in, fails}
use Rattle.register_text_verdict.proofs.Loops.{any_range}
use Rattle.register_text_verdict.proofs.tests.some_row.Goals as goal

pub returns : goal.returns
returns c =
    let a = c.args in
    any_from_yields_List (λ i. fails a.check (kinds_in a.s.now a.t.now a.props.now a.m) (entry_at a.s.now a.t.now i)) _ _ _ c.any.ensures.ran (YieldsList-from_range 0 a.n a.n (cc) (omega arith)) (λ x b q k. search (rules, tests))
    ∙ any_range _ _
