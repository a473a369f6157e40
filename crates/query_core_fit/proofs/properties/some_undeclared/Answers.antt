use mathlib.Core.Path.{◌∙◌}
use native.Mathlib.Omega.{arith}
use Rattle.std.proofs.Common.{rules, tests}
use Rattle.std.proofs.lemmas.Iterator.{YieldsList-from_range}
use Rattle.std.proofs.lemmas.Iterator.Search.{any_from_yields_List}
use Rattle.language.specs.Register.{kinds_of}
use Rattle.register_form.specs.Form.{register_in}
use Rattle.query_tree.specs.Form.{node_in}
use Rattle.query_core_fit.specs.Fitting.{node_undeclared}
use Rattle.query_core_fit.proofs.Undeclared.{any_range}
use Rattle.query_core_fit.proofs.properties.some_undeclared.Goals as goal

pub returns : goal.returns
returns c =
    let a = c.args in
    any_from_yields_List (λ i. node_undeclared (kinds_of (register_in a.register.now)) (node_in a.tree.now i)) _ _ _ c.any.ensures.ran (YieldsList-from_range 0 a.n a.n (cc) (omega arith)) (λ x b q k. search (rules, tests))
    ∙ any_range _ _ _
