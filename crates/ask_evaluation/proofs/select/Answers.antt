use Rattle.ask_evaluation.proofs.Selecting.{selecting}
use borrow.Author.Rules.{rules}
use Rattle.ask_evaluation.proofs.select.Goals as goal

pub returns-in-Category : goal.returns-in-Category
returns-in-Category c = search (selecting, rules)

pub returns-in-Namespace : goal.returns-in-Namespace
returns-in-Namespace c = search (selecting, rules)

pub returns-in-Existence : goal.returns-in-Existence
returns-in-Existence c = search (selecting, rules)

pub returns-in-Subquery : goal.returns-in-Subquery
returns-in-Subquery c = search (selecting, rules)

pub returns-in-Article : goal.returns-in-Article
returns-in-Article c = search (selecting, rules)

pub returns-in-Value : goal.returns-in-Value
returns-in-Value c = search (selecting, rules)

pub returns-in-Link : goal.returns-in-Link
returns-in-Link c = search (selecting, rules)
