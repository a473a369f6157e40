use Rattle.names.specs.Steps.{follows}
use Rattle.names.proofs.own_form.does_follow.Goals as goal

-- src/own_form.rt:39:1
pub returns : goal.returns
unfolding follows
returns c = rw (c.is_lead-lead.ensures, c.is_tail-tail.ensures)
