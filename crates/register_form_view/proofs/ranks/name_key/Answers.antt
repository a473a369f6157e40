use Rattle.register_form_view.proofs.Ordering.{ordering}
use borrow.Author.Rules.{rules}
use Rattle.register_form_view.proofs.ranks.name_key.Goals as goal

pub returns-then-entry_count-m : goal.returns-then-entry_count-m
returns-then-entry_count-m c = search (ordering, rules)

pub returns-then-is_eq : goal.returns-then-is_eq
returns-then-is_eq c = search (ordering, rules)

pub returns-else-is_eq : goal.returns-else-is_eq
returns-else-is_eq c = search (ordering, rules)
