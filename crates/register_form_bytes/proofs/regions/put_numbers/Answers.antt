use mathlib.Core.Path.{refl}
use native.Mathlib.Omega.{arith}
use borrow.Author.Rules.{rules}
use Rattle.register_form_bytes.proofs.Looping.{numbers_set, numbers_all}
use Rattle.register_form_bytes.proofs.regions.put_numbers.Goals as goal

pub loop-i-preserved : goal.loop-i-preserved
loop-i-preserved c = (search rules, numbers_set _ _ _ _ _ _ c.loop-i.invariant.1 _ _ _ (omega arith) refl refl refl)

pub returns : goal.returns
returns c = numbers_all _ _ _ _ _ _ c.loop-i.invariant.1 _ c.from-base.ensures (omega arith)
