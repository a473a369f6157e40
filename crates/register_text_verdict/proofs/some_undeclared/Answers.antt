use Rattle.register_text_verdict.proofs.Judging.{undeclared_none, undeclared_some}
use Rattle.register_text_verdict.proofs.some_undeclared.Goals as goal

pub returns-then-not-unfit : goal.returns-then-not-unfit
returns-then-not-unfit c = undeclared_none c.args.unfit _ c.if-not-unfit.true-raw

pub returns : goal.returns
returns c = undeclared_some c.args.unfit _ _ c.if-not-unfit.false-raw c.some_row.ensures
