use borrow.Author.Rules.{rules}
use Rattle.register_form_assembly.proofs.Counts.{counting}
use Rattle.register_form_assembly.proofs.counting.link_bytes.Goals as goal

pub returns-then-get_or-eq0 : goal.returns-then-get_or-eq0
returns-then-get_or-eq0 c = search (counting, rules)

pub returns-else-get_or-eq0 : goal.returns-else-get_or-eq0
returns-else-get_or-eq0 c = search (counting, rules)
