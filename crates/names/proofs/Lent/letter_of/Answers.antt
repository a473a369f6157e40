use Rattle.names.proofs.Letters.{told_alone, told_unmarked, told_marked}
use Rattle.names.proofs.Lent.letter_of.Goals as goal

-- src/lib.rt:77:9
pub returns-then-b-ne204 : goal.returns-then-b-ne204
returns-then-b-ne204 c = told_alone _ _ _ _ _ c.lone_letter.ensures c.if-b-ne204.true

-- src/lib.rt:81:9
pub returns-then-code-eq0 : goal.returns-then-code-eq0
returns-then-code-eq0 c = told_unmarked _ _ _ _ _ _ _ c.from.ensures c.from-2.ensures c.if-b-ne204.false c.composed_letter-code.ensures _ c.lone_letter-then-code-eq0.ensures c.if-code-eq0.true

-- src/lib.rt:65:1
pub returns : goal.returns
returns c = told_marked _ _ _ _ _ _ _ c.from.ensures c.from-2.ensures c.if-b-ne204.false c.composed_letter-code.ensures c.if-code-eq0.false
