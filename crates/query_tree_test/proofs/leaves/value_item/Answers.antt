use mathlib.Core.Path.{◌∙◌}
use lib.ListN.{length}
use Rattle.language.specs.Comparators.{word}
use Rattle.query_tree_test.proofs.Caps.{leaf_sized, plus_cut}
use Rattle.query_tree_test.proofs.leaves.value_item.Goals as goal

pub returns : goal.returns
returns c = c.leaf_item.ensures ∙ rw (c.spelled_value-kept.ensures, c.from.ensures, c.word_length.ensures, c.length_of.ensures) (leaf_sized _ _ _ _ _ _ (plus_cut (length (word c.args.c)) (length c.args.v.now)))
