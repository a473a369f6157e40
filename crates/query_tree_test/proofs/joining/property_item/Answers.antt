use mathlib.Core.Path.{◌∙◌}
use Rattle.query_tree_test.proofs.Caps.{told, property_is}
use Rattle.query_tree_test.proofs.joining.property_item.Goals as goal

pub returns : goal.returns
returns c = c.then_some.ensures ∙ told _ _ ∙ rw (c.is_alternatives.ensures, c.up_to_bytes.ensures, c.up_to_levels.ensures, c.from-depth.ensures, c.is_composed_property_name.ensures, c.from.ensures) (property_is _ _ _ c.length_of.ensures)
