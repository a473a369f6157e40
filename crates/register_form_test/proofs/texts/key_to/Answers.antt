use native.Mathlib.Omega.{arith}
use Rattle.register_form_test.proofs.TextKeys.{key_is}
use Rattle.register_form_test.proofs.texts.key_to.Goals as goal

pub returns : goal.returns
returns c = key_is c.args.h.now (λ i. omega (arith, c.shared_slice_known-1.given i)) c.args.at c.args.n _ c.requires.1 c.key_at.ensures
