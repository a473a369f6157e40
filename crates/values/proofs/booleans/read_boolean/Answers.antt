use Rattle.values.proofs.Laws.{booleans}
use Rattle.values.proofs.booleans.read_boolean.Goals as goal

pub returns-then-is_word : goal.returns-then-is_word
returns-then-is_word c = search booleans

pub returns-then-is_word-2 : goal.returns-then-is_word-2
returns-then-is_word-2 c = search booleans

pub returns-else-is_word-2 : goal.returns-else-is_word-2
returns-else-is_word-2 c = search booleans
