use Rattle.register_text_verdict.proofs.Judging.{read_long, read_told}
use Rattle.register_text_verdict.proofs.read_rows.Goals as goal

pub returns-then-s-gt32768 : goal.returns-then-s-gt32768
returns-then-s-gt32768 c = λ room. read_long _ c.if-s-gt32768.true

pub returns : goal.returns
returns c = λ room. read_told _ _ _ c.if-s-gt32768.false _ c.read_all.ensures room _ c.ok_or.ensures.value
