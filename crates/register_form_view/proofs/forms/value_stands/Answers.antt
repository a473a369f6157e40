use mathlib.Core.Path.{◌≡◌}
use borrow.Author.Rules.{rules}
use Rattle.values.specs.Values.{same_scalar}
use Rattle.register_form_view.proofs.Looking.{standing}
use Rattle.register_form_view.proofs.forms.value_stands.Goals as goal

pub returns-in-Page : goal.returns-in-Page
returns-in-Page c = search (standing, rules)

pub returns-in-Scalar-w : goal.returns-in-Scalar-w
returns-in-Scalar-w c = let same : c.eq.result ≡ same_scalar c.in-Scalar.j c.in-Scalar-w.l = search rules in search (standing, rules)

pub returns-in-String-w : goal.returns-in-String-w
returns-in-String-w c = search (standing, rules)

pub returns-in-Scalar-w-2 : goal.returns-in-Scalar-w-2
returns-in-Scalar-w-2 c = search (standing, rules)

pub returns-then-n-rank : goal.returns-then-n-rank
returns-then-n-rank c = search (standing, rules)

pub returns-else-n-rank : goal.returns-else-n-rank
returns-else-n-rank c = search (standing, rules)
