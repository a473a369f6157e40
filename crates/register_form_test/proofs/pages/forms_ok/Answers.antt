use Prim.Native.Nat.{◌+◌, ◌*◌, ◌≤◌}
use lib.ListN.{length}
use native.Mathlib.Omega.{arith}
use borrow.Author.Rules.{rules}
use Rattle.register_form_test.proofs.Loops.{loops, written_more}
use Rattle.register_form_test.proofs.PageWays.{pages, all_none, form_in_lem, behind_more, form_sum, form_past, form_again, form_behind, form_passed, forms_passed, forms_few}
use Rattle.register_form_test.proofs.pages.forms_ok.Goals as goal

pub returns-then-terms-f : goal.returns-then-terms-f
returns-then-terms-f c = search (form_past, rules)

pub returns-then-get_or-mark : goal.returns-then-get_or-mark
returns-then-get_or-mark c = search (form_again, rules)

pub returns-then-behind-category : goal.returns-then-behind-category
returns-then-behind-category c = search (form_behind, rules)

pub loop-j-preserved : goal.loop-j-preserved
loop-j-preserved c =
    let k : 2 * c.loop-j.j + 2 ≤ length c.forms_of-forms.result.now = omega arith in
    (omega arith, search (form_passed, rules), search (behind_more, rules), search (form_sum, rules), search (written_more, form_in_lem, rules), search rules, search rules)

pub returns : goal.returns
returns c = forms_passed _ _ c.requires.0 c.requires.1 _ c.forms_of-forms.ensures _ c.loop-j.invariant.0 (omega arith) _ _ _ _ _ c.loop-j.invariant.1 c.loop-j.invariant.3 c.loop-j.invariant.4 c.loop-j.invariant.5

pub loop-j-init : goal.loop-j-init
loop-j-init c = search (pages, loops, all_none, forms_few, rules)
