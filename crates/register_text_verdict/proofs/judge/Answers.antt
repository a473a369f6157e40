use Rattle.register_text_verdict.proofs.Judging.{judged}
use Rattle.register_text_verdict.proofs.judge.Goals as goal

pub returns : goal.returns
returns c room typed p = judged _ _ _ _ _ _ _ _ _ c.collect-np.ensures c.collect-ng.ensures room typed p _ c.judge_rows.ensures
