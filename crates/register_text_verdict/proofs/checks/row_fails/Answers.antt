use Rattle.register_text_verdict.proofs.Ways.{row}
use Rattle.register_text_verdict.proofs.checks.row_fails.Goals as goal

pub returns-in-Rule : goal.returns-in-Rule
returns-in-Rule c = search row

pub returns-in-Undeclared : goal.returns-in-Undeclared
returns-in-Undeclared c = search row

pub returns-in-Unfit : goal.returns-in-Unfit
returns-in-Unfit c = search row
