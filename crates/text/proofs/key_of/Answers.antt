use Prim.Native.Nat.{ℕ, ◌+◌, ◌*◌}
use mathlib.Core.Path.{refl, ap, ◌∙◌}
use native.Mathlib.Omega.{arith}
use Rattle.text.specs.Keys.{key_to}
use Rattle.text.proofs.Keys.{Small, key_fits, key_next}
use Rattle.text.proofs.key_of.Goals as goal

pub loop-i-init : goal.loop-i-init
unfolding key_to
loop-i-init c = refl

pub overflow_mul-key : goal.overflow_mul-key
overflow_mul-key c =
    let small : Small c.args.t.now = λ j. omega (arith, c.type_inv.t j) in
    omega (arith, key_fits c.args.t.now small c.loop-i.i c.loop-i-test.true, c.loop-i.invariant)

pub overflow_add-key : goal.overflow_add-key
overflow_add-key c =
    let small : Small c.args.t.now = λ j. omega (arith, c.type_inv.t j) in
    omega (arith, key_fits c.args.t.now small c.loop-i.i c.loop-i-test.true, c.loop-i.invariant, c.digit.ensures.1)

pub loop-i-preserved : goal.loop-i-preserved
loop-i-preserved c = ap (λ (k : ℕ). 256 * k + c.digit.result) c.loop-i.invariant ∙ key_next c.args.t.now c.loop-i.i _ c.digit.ensures.0
