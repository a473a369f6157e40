use Rattle.names.specs.Names.{is_composed_property_name}
use Rattle.names.proofs.is_composed_property_name.Goals as goal

pub returns : goal.returns
unfolding is_composed_property_name
returns c = rw (c.is_composed_name.ensures, c.all_in.ensures)
