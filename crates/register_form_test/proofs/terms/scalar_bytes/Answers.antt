use native.Mathlib.Omega.{arith}
use Rattle.values.proofs.EachKind.{spelled_scalar_few}
use Rattle.register_form_test.proofs.terms.scalar_bytes.Goals as goal

pub overflow_cast-result : goal.overflow_cast-result
overflow_cast-result c = omega (arith, c.scalar_length.ensures, spelled_scalar_few c.args.k c.args.code (omega arith))
