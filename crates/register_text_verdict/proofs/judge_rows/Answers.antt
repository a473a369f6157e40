use Rattle.register_text_verdict.proofs.Judging.{verdict_is}
use Rattle.register_text_verdict.proofs.judge_rows.Goals as goal

pub returns : goal.returns
returns c = search verdict_is
