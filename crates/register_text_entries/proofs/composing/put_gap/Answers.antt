use borrow.Author.Rules.{rules}
use Rattle.register_text_entries.proofs.Copying.{parts}
use Rattle.register_text_entries.proofs.composing.put_gap.Goals as goal

-- lost: slice-aggregate-put-bytes : tie.Need-slice-aggregate-put-bytes
-- slice-aggregate-put-bytes c = search rules

pub returns-then-has_gap : goal.returns-then-has_gap
returns-then-has_gap c = search (parts, rules)

pub returns-else-has_gap : goal.returns-else-has_gap
returns-else-has_gap c = search (parts, rules)
