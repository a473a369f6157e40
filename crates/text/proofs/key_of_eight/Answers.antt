use native.Mathlib.Omega.{arith}
use Rattle.text.specs.Keys.{key_to}
use Rattle.text.proofs.key_of_eight.Goals as goal

pub returns : goal.returns
unfolding key_to
returns c =
    omega (arith, c.digit.ensures.0, c.digit-2.ensures.0, c.digit-3.ensures.0, c.digit-4.ensures.0, c.digit-5.ensures.0, c.digit-6.ensures.0, c.digit-7.ensures.0, c.digit-8.ensures.0)
