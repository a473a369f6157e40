use Prim.Native.Nat.{ℕ, ◌+◌, ◌-◌}
use mathlib.Core.Path.{◌≡◌, ap}
use native.Mathlib.Omega.{arith}
use lib.ListN.{take, drop}
use Rattle.text.proofs.Keys.{key_part}
use Rattle.text.proofs.key_in.Goals as goal

pub returns : goal.returns
returns c =
    let at = c.args.at in
    let e : at + 8 - at ≡ 8 = omega arith in
    key_part c.args.s.now _ at _ (ap (λ (n : ℕ). take n (drop at c.args.s.now)) e) c.key_of_eight.ensures
