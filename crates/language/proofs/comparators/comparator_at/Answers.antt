use borrow.Author.Rules.{rules}
use Rattle.language.specs.Comparators.{first_typed}
use Rattle.language.proofs.AllComparators.{typing}
use Rattle.language.proofs.comparators.comparator_at.Goals as goal

-- lost: slice-aggregate-word-at : tie.Need-slice-aggregate-word-at
-- slice-aggregate-word-at c = search rules

-- lost: slice-aggregate-word-at-2 : tie.Need-slice-aggregate-word-at-2
-- slice-aggregate-word-at-2 c = search rules

-- lost: slice-aggregate-word-at-3 : tie.Need-slice-aggregate-word-at-3
-- slice-aggregate-word-at-3 c = search rules

-- lost: slice-aggregate-word-at-4 : tie.Need-slice-aggregate-word-at-4
-- slice-aggregate-word-at-4 c = search rules

-- lost: slice-aggregate-word-at-5 : tie.Need-slice-aggregate-word-at-5
-- slice-aggregate-word-at-5 c = search rules

pub returns-then-word_at : goal.returns-then-word_at
returns-then-word_at c = search (typing, rules)

pub returns-then-word_at-2 : goal.returns-then-word_at-2
returns-then-word_at-2 c = search (typing, rules)

pub returns-then-word_at-3 : goal.returns-then-word_at-3
returns-then-word_at-3 c = search (typing, rules)

pub returns-then-word_at-4 : goal.returns-then-word_at-4
returns-then-word_at-4 c = search (typing, rules)

pub returns-then-word_at-5 : goal.returns-then-word_at-5
returns-then-word_at-5 c = search (typing, rules)

pub returns-else-word_at-5 : goal.returns-else-word_at-5
unfolding first_typed
returns-else-word_at-5 c = search (typing, rules)
