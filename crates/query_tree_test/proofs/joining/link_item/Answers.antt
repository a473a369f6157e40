use mathlib.Core.Path.{◌∙◌}
use Rattle.query_tree_test.proofs.Caps.{told, link_is}
use Rattle.query_tree_test.proofs.joining.link_item.Goals as goal

pub returns : goal.returns
returns c = c.then_some.ensures ∙ told _ _ ∙ rw (c.is_property.ensures, c.up_to_bytes.ensures, c.up_to_levels-2.ensures, c.up_to_levels.ensures, c.from-depth.ensures, c.is_composed_property_name.ensures, c.from.ensures, c.from-names.ensures) (link_is _ _ _ c.length_of.ensures)
