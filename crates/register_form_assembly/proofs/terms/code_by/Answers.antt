use borrow.Author.Rules.{rules}
use Rattle.register_form_assembly.proofs.Coding.{coding}
use Rattle.register_form_assembly.proofs.terms.code_by.Goals as goal

pub returns-then-group-eq0 : goal.returns-then-group-eq0
returns-then-group-eq0 c = search (coding, rules)

pub returns : goal.returns
returns c = search (coding, rules)
