use mathlib.Core.Path.{sym, ap, ◌∙◌}
use mathlib.Core.Bool.{false}
use native.Mathlib.Omega.{arith}
use lib.ListN.{get_or}
use Rattle.text.specs.Table.{bit}
use Rattle.text.proofs.Tables.{count_none, count_more, count_most}
use Rattle.pageset.specs.Marks.{marks_from}
use Rattle.pageset.proofs.PageSet.count.Goals as goal
use Rattle.pageset.proofs.PageSet.count.Goals.{then-mark_at, else-mark_at}

pub loop-page-init : goal.loop-page-init
loop-page-init c = sym (count_none _)

pub overflow_add-n : goal.overflow_add-n
overflow_add-n c = omega (arith, c.loop-page.invariant, count_most c.loop-page.page (λ i. get_or (marks_from c.args.self.words) i false))

pub loop-page-preserved : goal.loop-page-preserved
loop-page-preserved c =
    elim c.if-mark_at.branch [
      | then-mark_at w ↦ omega (arith, count_more (λ i. get_or (marks_from c.args.self.words) i false) c.loop-page.page, ap bit (sym c.mark_at.ensures ∙ w.if-mark_at.true))
      | else-mark_at w ↦ omega (arith, count_more (λ i. get_or (marks_from c.args.self.words) i false) c.loop-page.page, ap bit (sym c.mark_at.ensures ∙ w.if-mark_at.false))
    ]
