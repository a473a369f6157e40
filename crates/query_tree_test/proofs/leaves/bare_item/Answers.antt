use mathlib.Core.Path.{◌∙◌}
use lib.ListN.{length}
use Rattle.language.specs.Comparators.{word, is_equal}
use Rattle.query_tree_spelling.specs.Spelled.{cost_reference}
use Rattle.query_tree_test.proofs.Caps.{leaf_sized, plus_cut}
use Rattle.query_tree_test.proofs.Loops.{and_no}
use Rattle.query_tree_test.proofs.leaves.bare_item.Goals as goal

pub returns : goal.returns
unfolding cost_reference
returns c = c.leaf_item.ensures ∙ rw (c.is_composed_name-kept.ensures, c.from.ensures, c.word_length.ensures, c.length_of.ensures, and_no (is_equal c.args.c)) (leaf_sized _ _ _ _ _ _ (plus_cut (length (word c.args.c)) (length c.args.x.now)))
