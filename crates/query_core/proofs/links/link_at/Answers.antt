use Rattle.query_core.proofs.Ways.{link_reads}
use Rattle.query_core.proofs.links.link_at.Goals as goal

pub returns : goal.returns
returns c = link_reads c.args.heap.now c.args.code c.args.name c.args.split _ _ _ _ _ _ _ c.comparator_from-c.ensures c.part.ensures c.is_composed_name-named.ensures c.is_spaced-spaced.ensures c.part-2.ensures c.is_composed_property_name.ensures c.selected_if.ensures
