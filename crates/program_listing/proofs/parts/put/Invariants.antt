use mathlib.Core.Path.{◌≡◌}
use lib.ListN.{length, take}
use Rattle.program_listing.specs.Appends.{Appends}
use Rattle.program_listing.proofs.parts.put.Given as goal

abbrev pub invariant-loop-b : goal.invariant-loop-b
invariant-loop-b l = (length l.out ≡ length l.initial.out) × Appends l.initial.out l.at (take l.b-index l.part) l.out l.to
