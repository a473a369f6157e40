use Rattle.ask_evaluation.proofs.Mixing.{mixing}
use borrow.Author.Rules.{rules}
use Rattle.ask_evaluation.proofs.mismatch.mixes_at.Goals as goal

pub returns-then-not-expects_kind_at : goal.returns-then-not-expects_kind_at
returns-then-not-expects_kind_at c = search (mixing, rules)

pub returns-in_default : goal.returns-in_default
returns-in_default c = search (mixing, rules)

pub returns-in_default-expected_by : goal.returns-in_default-expected_by
returns-in_default-expected_by c = search (mixing, rules)

pub returns : goal.returns
returns c = search (mixing, rules)
