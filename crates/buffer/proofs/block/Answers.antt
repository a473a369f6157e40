use Prim.Native.Nat.{ℕ, ◌+◌, ◌-◌}
use mathlib.Core.Path.{◌≡◌, ap}
use native.Mathlib.Omega.{arith}
use lib.ListN.{take, drop}
use Rattle.buffer.proofs.block.Goals as goal

pub returns : goal.returns
returns c =
    let at = c.args.at in
    let e : at + 256 - at ≡ 256 = omega arith in
    ap (λ (n : ℕ). take n (drop at c.args.s.now)) e
