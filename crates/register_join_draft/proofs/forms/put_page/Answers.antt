use Rattle.register_join_draft.proofs.Ways.{drafting}
use borrow.Author.Rules.{rules}
use Rattle.register_join_draft.proofs.forms.put_page.Goals as goal

pub returns-then-place-eq0 : goal.returns-then-place-eq0
returns-then-place-eq0 c = search (drafting, rules)

pub returns-then-page_count-i : goal.returns-then-page_count-i
returns-then-page_count-i c = search (drafting, rules)

pub returns : goal.returns
returns c = search (drafting, rules)
