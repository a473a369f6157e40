use borrow.Author.Rules.{rules}
use Rattle.register_form_assembly.proofs.Coding.{coding}
use Rattle.register_form_assembly.proofs.terms.put_term.Goals as goal

pub returns-then-table-f : goal.returns-then-table-f
returns-then-table-f c = search (coding, rules)

pub returns : goal.returns
returns c = search (coding, rules)
