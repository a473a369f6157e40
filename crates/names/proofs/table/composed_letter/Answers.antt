use mathlib.Core.Path.{◌∙◌}
use Rattle.names.proofs.Places.{lent_found, lent_missing}
use Rattle.names.proofs.table.composed_letter.Goals as goal

-- src/table.rt:42:1
pub returns-then-get_or-letter : goal.returns-then-get_or-letter
returns-then-get_or-letter c = λ t. lent_found _ _ _ _ t _ _ _ _ _ c.from.ensures c.from-2.ensures (c.from-i.ensures ∙ c.get_or.ensures) _ _ c.get_or-2.ensures c.get_or-3.ensures _ c.if-get_or-letter.true c.get_or-then-get_or-letter.ensures

-- src/table.rt:42:1
pub returns-else-get_or-letter : goal.returns-else-get_or-letter
returns-else-get_or-letter c = λ t. lent_missing _ _ _ _ t _ _ _ _ _ c.from.ensures c.from-2.ensures (c.from-i.ensures ∙ c.get_or.ensures) _ _ c.get_or-2.ensures c.get_or-3.ensures c.if-get_or-letter.false
