use mathlib.Core.Path.{◌≡◌, sym, ◌∙◌}
use native.Mathlib.Omega.{arith}
use lib.ListN.{length}
use Rattle.text.proofs.Laws.{scan_stop, scan_step, scan_end}
use Rattle.text.proofs.scan.Goals as goal

pub returns-then-s-at : goal.returns-then-s-at
returns-then-s-at c = sym (scan_end _ _ _ (omega arith))

pub returns-then-not-in_class : goal.returns-then-not-in_class
returns-then-not-in_class c = sym (c.loop-i.invariant ∙ scan_stop _ _ _ c.loop-i-test.true (sym c.in_class.ensures ∙ c.if-not-in_class.true))

pub loop-i-preserved : goal.loop-i-preserved
loop-i-preserved c = c.loop-i.invariant ∙ scan_step _ _ _ c.loop-i-test.true (sym c.in_class.ensures ∙ c.if-not-in_class.false)

pub returns : goal.returns
returns c =
    let e : length c.args.s.now ≡ c.loop-i.i = omega arith in
    e ∙ sym (c.loop-i.invariant ∙ scan_end _ _ _ c.loop-i-test.false)
