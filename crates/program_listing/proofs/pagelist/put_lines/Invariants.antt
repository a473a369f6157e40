use mathlib.Core.Path.{◌≡◌}
use lib.ListN.{length}
use Rattle.program_listing.specs.Answering.{AppendsLines}
use Rattle.program_listing.proofs.pagelist.put_lines.Given as goal

abbrev pub invariant-loop-i : goal.invariant-loop-i
invariant-loop-i l = (length l.out ≡ length l.initial.out) × AppendsLines l.h l.marks l.i l.initial.out l.at l.out l.to
