use mathlib.Core.Path.{◌≡◌}
use Rattle.query_text_pieces.specs.Places.{head_at}
use Rattle.query_text_pieces.proofs.head_end.Given as goal

abbrev pub invariant-loop-i : goal.invariant-loop-i
invariant-loop-i l = head_at l.s l.at ≡ head_at l.s l.i
