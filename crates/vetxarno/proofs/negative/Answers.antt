use mathlib.Core.Path.{◌∙◌, ap}
use lib.IntN.{neg_ℤ}
use Rattle.vetxarno.proofs.Numbers.{refusal_few}
use Rattle.vetxarno.proofs.negative.Goals as goal
