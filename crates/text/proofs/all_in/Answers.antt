use mathlib.Core.Path.{sym}
use native.Mathlib.Nat.{zero-add}
use Rattle.text.proofs.Laws.{all_is}
use Rattle.text.proofs.all_in.Goals as goal

pub returns : goal.returns
returns c = rw (c.scan.ensures, zero-add) (sym (all_is _ _))
