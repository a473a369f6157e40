use Rattle.names.specs.Codes.{is_plain}
use Rattle.names.proofs.own_form.is_plain.Goals as goal

pub returns : goal.returns
unfolding is_plain
returns c = rw c.in_class.ensures
