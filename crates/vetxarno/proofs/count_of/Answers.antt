use Prim.Native.Nat.{◌%◌}
use mathlib.Core.Path.{◌≡◌, ap, ◌∙◌}
use native.Mathlib.Omega.{arith}
use lib.IntN.{pos}
use Rattle.vetxarno.proofs.Numbers.{small_is}
use Rattle.vetxarno.proofs.count_of.Goals as goal

pub returns : goal.returns
returns c h =
    let same : c.args.n % 257 ≡ c.args.n = omega (arith, h) in
    small_is (c.args.n % 257) (omega arith) ∙ ap pos same
