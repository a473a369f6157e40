use Rattle.names.proofs.Letters.{lone_plain, lone_missing, lone_wide}
use Rattle.names.proofs.lone_letter.Goals as goal

-- src/lib.rt:51:9
pub returns-then-is_plain : goal.returns-then-is_plain
returns-then-is_plain c = lone_plain _ _ _ c.is_plain.ensures c.if-is_plain.true _ c.from.ensures

-- src/lib.rt:58:9
pub returns-then-code-eq0 : goal.returns-then-code-eq0
returns-then-code-eq0 c = lone_missing _ _ _ c.is_plain.ensures c.if-is_plain.false _ c.letter_pair-code.ensures c.if-code-eq0.true

-- src/lib.rt:47:1
pub returns : goal.returns
returns c = lone_wide _ _ _ c.is_plain.ensures c.if-is_plain.false _ c.letter_pair-code.ensures c.if-code-eq0.false
