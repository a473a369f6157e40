use Rattle.text.proofs.Laws.{numbers_cmp}
use Rattle.register_form_view.proofs.ranks.order_by.Goals as goal

pub returns : goal.returns
returns c = rw (c.cmp.ensures, numbers_cmp, c.from.ensures)
