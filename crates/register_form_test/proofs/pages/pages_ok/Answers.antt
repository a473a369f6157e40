use borrow.Author.Rules.{rules}
use Rattle.register_form_test.proofs.Loops.{loops, written_more}
use Rattle.register_form_test.proofs.PageWays.{pages, all_none, forms_failed, page_failed, page_passed, page_sum, last_more, pages_passed}
use Rattle.register_form_test.proofs.pages.pages_ok.Goals as goal

pub loop-i-init : goal.loop-i-init
loop-i-init c = search (pages, loops, all_none, rules)

pub returns-in_err-held : goal.returns-in_err-held
returns-in_err-held c = let n = c.in_err-held.was in rw c.from_residual.ensures (search (forms_failed, rules))

pub returns-then-not-page_ok : goal.returns-then-not-page_ok
returns-then-not-page_ok c = search (page_failed, rules)

pub loop-i-preserved : goal.loop-i-preserved
loop-i-preserved c = (search (page_passed, rules), search (page_sum, rules), search (last_more, rules), search (written_more, rules), search rules)

pub returns : goal.returns
returns c = search (pages_passed, rules)
