use Rattle.names.specs.Names.{is_namespace}
use Rattle.names.proofs.is_namespace.Goals as goal

pub returns : goal.returns
unfolding is_namespace
returns c = rw c.is_name.ensures
