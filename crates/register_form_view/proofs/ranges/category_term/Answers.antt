use native.Mathlib.Omega.{arith}
use Rattle.register_form_view.proofs.Searching.{category_located}
use Rattle.register_form_view.proofs.ranges.category_term.Goals as goal

pub returns : goal.returns
returns c = category_located _ c.args.k _ (omega arith) c.binary_search.ensures
