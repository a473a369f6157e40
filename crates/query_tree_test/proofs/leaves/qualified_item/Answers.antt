use mathlib.Core.Path.{◌∙◌}
use lib.ListN.{length}
use Rattle.language.specs.Comparators.{word}
use Rattle.query_tree_spelling.specs.Spelled.{cost_reference}
use Rattle.query_tree_test.proofs.Caps.{leaf_sized, cuts_plus}
use Rattle.query_tree_test.proofs.leaves.qualified_item.Goals as goal

pub returns : goal.returns
unfolding cost_reference
returns c = c.leaf_item.ensures ∙ rw (c.is_equal.ensures, c.same_bytes.ensures, c.is_composed_namespace.ensures, c.is_composed_name.ensures, c.from.ensures, c.word_length.ensures, c.length_of.ensures, c.length_of-2.ensures) (leaf_sized _ _ _ _ _ _ (cuts_plus (length (word c.args.c)) (length c.args.n.now) (length c.args.x.now)))
