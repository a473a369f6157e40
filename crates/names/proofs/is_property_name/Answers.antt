use Rattle.names.specs.Names.{is_property_name}
use Rattle.names.proofs.is_property_name.Goals as goal

pub returns : goal.returns
unfolding is_property_name
returns c = rw (c.is_name.ensures, c.all_in.ensures)
