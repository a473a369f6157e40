use Prim.Native.Nat.{◌+◌, ◌-◌}
use mathlib.Core.Path.{◌≡◌, ap, sym, ◌∙◌}
use native.Mathlib.Omega.{arith}
use lib.ListN.{length}
use lib.Seq.{take-length}
use Rattle.text.proofs.Trim.{end_blank, end_stop, end_none}
use Rattle.text.proofs.end_of.Goals as goal

pub loop-i-init : goal.loop-i-init
loop-i-init c = rw take-length

pub returns-then-not-in_class : goal.returns-then-not-in_class
returns-then-not-in_class c = let e : c.loop-i.i - 1 + 1 ≡ c.loop-i.i = omega arith in e ∙ sym (ap length c.loop-i.invariant ∙ end_stop _ _ (omega arith) (omega arith) (sym c.in_class.ensures ∙ c.if-not-in_class.true))

pub loop-i-preserved : goal.loop-i-preserved
loop-i-preserved c = c.loop-i.invariant ∙ end_blank _ _ (omega arith) (omega arith) (sym c.in_class.ensures ∙ c.if-not-in_class.false)

pub returns : goal.returns
returns c = sym (ap length c.loop-i.invariant ∙ end_none _ _ (omega arith))
