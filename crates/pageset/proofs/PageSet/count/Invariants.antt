use mathlib.Core.Path.{◌≡◌}
use mathlib.Core.Bool.{false}
use lib.ListN.{get_or}
use Rattle.text.specs.Table.{count_to}
use Rattle.pageset.specs.Marks.{marks_from}
use Rattle.pageset.proofs.PageSet.count.Given as goal

abbrev pub invariant-loop-page : goal.invariant-loop-page
invariant-loop-page l = l.n ≡ count_to l.page (λ i. get_or (marks_from l.words) i false)
