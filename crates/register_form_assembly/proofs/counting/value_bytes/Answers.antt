use borrow.Author.Rules.{rules}
use Rattle.register_form_assembly.proofs.Counts.{counting}
use Rattle.register_form_assembly.proofs.counting.value_bytes.Goals as goal

pub returns-in-Page : goal.returns-in-Page
returns-in-Page c = search (counting, rules)

pub returns-in-Scalar : goal.returns-in-Scalar
returns-in-Scalar c = search (counting, rules)

pub returns-in-String : goal.returns-in-String
returns-in-String c = search (counting, rules)
