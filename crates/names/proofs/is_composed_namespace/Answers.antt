use Rattle.names.specs.Names.{is_composed_namespace}
use Rattle.names.proofs.is_composed_namespace.Goals as goal

pub returns : goal.returns
unfolding is_composed_namespace
returns c = rw c.is_composed_name.ensures
