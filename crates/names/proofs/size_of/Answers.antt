use borrow.Author.Tests.{lt-ltb, le-ltb}
use Rattle.names.specs.Codes.{encode}
use Rattle.names.proofs.size_of.Goals as goal

pub returns-then-code-lt128 : goal.returns-then-code-lt128
unfolding encode
returns-then-code-lt128 c = rw (lt-ltb _ _ c.if-code-lt128.true)

pub returns-else-code-lt128 : goal.returns-else-code-lt128
unfolding encode
returns-else-code-lt128 c = rw (le-ltb _ _ c.if-code-lt128.false)
