use mathlib.Core.Path.{◌∙◌}
use lib.ListN.{length}
use Rattle.query_tree_test.proofs.Caps.{leaf_sized, cut_plus}
use Rattle.query_tree_test.proofs.leaves.namespace_item.Goals as goal

pub returns : goal.returns
returns c = c.leaf_item.ensures ∙ rw (c.same_bytes-leads.ensures, c.is_composed_namespace-kept.ensures, c.length_of.ensures) (leaf_sized _ _ _ _ _ _ (cut_plus (length c.args.n.now) 2))
