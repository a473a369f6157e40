use borrow.Author.Rules.{rules}
use Rattle.register_form_assembly.proofs.Counts.{counting}
use Rattle.register_form_assembly.proofs.counting.text_bytes.Goals as goal

pub returns : goal.returns
returns c = search (counting, rules)
