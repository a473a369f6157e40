use borrow.Author.Rules.{rules}
use Rattle.register_form_assembly.proofs.Counts.{counting}
use Rattle.register_form_assembly.proofs.counting.form_bytes.Goals as goal

pub returns-then-group-eq0 : goal.returns-then-group-eq0
returns-then-group-eq0 c = search (counting, rules)

pub returns : goal.returns
returns c = search (counting, rules)
