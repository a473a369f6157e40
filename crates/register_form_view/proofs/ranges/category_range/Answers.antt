use native.Mathlib.Omega.{arith}
use Prim.Native.Nat.{ℕ, ◌<◌}
use mathlib.Core.Path.{refl}
use lib.ListN.{get_or}
use Rattle.register_form_view.proofs.Searching.{place_small}
use Rattle.register_form_view.proofs.Ranging.{range_no_text, range_no_term, range_category}
use Rattle.register_form_view.proofs.ranges.category_range.Goals as goal

pub returns-in_default : goal.returns-in_default
returns-in_default c = range_no_text _ _ _ c.binary_search.ensures _ c.in_default.is c.no_terms.ensures

pub returns-in_default-category_term : goal.returns-in_default-category_term
returns-in_default-category_term c = range_no_term _ _ _ c.binary_search.ensures _ c.in-Some.is _ c.category_term.ensures _ c.in_default-category_term.is c.no_terms-in_default-category_term.ensures

pub overflow_add-result : goal.overflow_add-result
overflow_add-result c =
    let bytes : (i : ℕ) → get_or c.args.h.now i 0 < 256 = λ i. omega (arith, c.shared_slice_known-1.given i) in
    omega (arith, place_small _ _ _ _ bytes c.category_term.ensures c.in-Some-category_term.is)

pub returns : goal.returns
returns c = range_category _ _ _ c.binary_search.ensures _ c.in-Some.is _ c.category_term.ensures _ _ c.in-Some-category_term.is refl refl
