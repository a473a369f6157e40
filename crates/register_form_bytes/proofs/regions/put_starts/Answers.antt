use native.Mathlib.Omega.{arith}
use borrow.Author.Rules.{rules}
use Rattle.register_form_bytes.proofs.Looping.{laying, starts_all}
use Rattle.register_form_bytes.proofs.regions.put_starts.Goals as goal

pub loop-i-preserved : goal.loop-i-preserved
loop-i-preserved c = search (laying, rules)

pub returns : goal.returns
returns c = starts_all _ _ _ _ _ _ _ _ c.loop-i.invariant.2 _ _ _ (omega arith) (omega arith) c.from-base.ensures c.put_two-2.ensures
