use mathlib.Core.Path.{◌≡◌}
use lib.ListN.{length}
use Rattle.register_form_bytes.proofs.Looping.{Numbering}
use Rattle.register_form_bytes.proofs.regions.put_numbers.Given as goal

abbrev pub invariant-loop-i : goal.invariant-loop-i
invariant-loop-i l = (length l.h ≡ length l.initial.h) × Numbering l.initial.h l.base l.table l.n l.h l.i
