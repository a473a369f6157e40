use native.Mathlib.Omega.{arith}
use Rattle.register_text_entries.proofs.Ways.{kinds, kind_fits}
use Rattle.register_text_entries.proofs.forms.kind_word.Goals as goal

pub returns-in_err-kind : goal.returns-in_err-kind
returns-in_err-kind c = let gone = c.in_err-kind.was in rw c.from_residual.ensures (search kinds)

pub overflow_add-result : goal.overflow_add-result
overflow_add-result c = omega (arith, kind_fits _ c.args.at _ c.kind_at.ensures _ c.in_ok-kind.was)

pub returns : goal.returns
returns c = let a = c.in_ok-kind.was in search kinds
