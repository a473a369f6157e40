-- The meaning of core queries, page by page: thesis 4.5.1 to 4.5.3; the mismatch of document 01, "Text to core".
use Rattle.std.specs.Prelude.{Bool, true, false, cond, not, ◌&&◌, ◌||◌, List, map}
use Rattle.text.specs.Bytes.{Bytes, order_of, same, any}
use Rattle.std.specs.declared.cmp.Ordering.{Ordering}
use Rattle.values.specs.declared.Kind.{Kind}
use Rattle.values.specs.Names.{Reference}
use Rattle.values.specs.Values.{Constant, Value, plain, link, kind_of, kind_of_constant, order_constants, same_kind}
use Rattle.language.specs.Answer.{Answer, refused, accepted, found}
use Rattle.language.specs.Register.{Page, Register, Typing, holds, leads, has_kind}
use Rattle.language.specs.Core.{Selector, Core}
use Rattle.language.specs.References.{is_meant}
use Rattle.language.specs.declared.Comparator.{Comparator}
use Rattle.language.specs.declared.SurfaceComparator.{SurfaceComparator}

-- The order is what the comparator asks for.
abbrev pub stands : Comparator → Ordering → Bool
stands Comparator.Equal Ordering.Less = false
stands Comparator.Equal Ordering.Equal = true
stands Comparator.Equal Ordering.Greater = false
stands Comparator.Unequal Ordering.Less = true
stands Comparator.Unequal Ordering.Equal = false
stands Comparator.Unequal Ordering.Greater = true
stands Comparator.Greater Ordering.Less = false
stands Comparator.Greater Ordering.Equal = false
stands Comparator.Greater Ordering.Greater = true
stands Comparator.Less Ordering.Less = true
stands Comparator.Less Ordering.Equal = false
stands Comparator.Less Ordering.Greater = false

-- What the thesis leaves undefined (4.5.2): a comparison of a value with a constant of another kind, and a value that is no
-- link where a link is looked for.
pub record Mixed : Type 0 where
  pub compared : Comparator → Value → Constant → Bool
  pub followed : Constant → Bool

-- 4.5.1.
unfoldable pub Ca : Comparator → Bytes → Bytes → Bool
Ca c x y = stands c (order_of x y)

-- 4.5.2: a value of a page beside a constant of the query.
unfoldable pub Cv : Mixed → Comparator → Constant → Value → Bool
Cv u c v (plain w) = found (order_constants w v) (stands c) (u.compared c (plain w) v)
Cv u c v (link i) = u.compared c (link i) v

-- A link that the reference means, "page or no page".
unfoldable pub Cl : Mixed → SurfaceComparator → Reference → Value → Bool
Cl u c r (plain w) = u.followed w
Cl u c r (link i) = is_meant c r i

-- The value leads to a page of the register that the test selects.
unfoldable pub follows : Mixed → Register → (Page → Bool) → Value → Bool
follows u R test (plain c) = u.followed c
follows u R test (link i) = leads R test (link i)

-- 4.5.3.
unfoldable mutual
  pub S : Selector → Mixed → Register → Page → Bool
  S (Selector.category x) u R p = any (same x) p.categories
  S (Selector.namespace x) u R p = same p.identifier.namespace x
  S (Selector.existence x) u R p = holds x (λ v. true) p
  S (Selector.subquery x q) u R p = holds x (follows u R (λ p. Q q u R p)) p
  S (Selector.article c x) u R p = Ca c p.identifier.article x
  S (Selector.value x c v) u R p = holds x (Cv u c v) p
  S (Selector.link x c r) u R p = holds x (Cl u c r) p

  pub Q : Core → Mixed → Register → Page → Bool
  Q (Core.select s) u R p = S s u R p
  Q (Core.disjunction a b) u R p = Q a u R p || Q b u R p
  Q (Core.conjunction a b) u R p = Q a u R p && Q b u R p

-- Some page holds, under x, a value of another kind than k.
unfoldable pub some_other : Register → Bytes → Kind → Bool
some_other R x k = any (holds x (λ v. not (same_kind (kind_of v) k))) R.pages

-- 23: "a value selector names a property under which any page holds another kind than the constant's, or a subquery names
-- one under which any page holds a non-page value", anywhere in the core query; a link node as a subquery
unfoldable mutual
  pub mismatch_in : Selector → Register → Bool
  mismatch_in (Selector.category x) R = false
  mismatch_in (Selector.namespace x) R = false
  mismatch_in (Selector.existence x) R = false
  mismatch_in (Selector.subquery x q) R = some_other R x Kind.Page || mismatch q R
  mismatch_in (Selector.article c x) R = false
  mismatch_in (Selector.value x c v) R = some_other R x (kind_of_constant v)
  mismatch_in (Selector.link x c r) R = some_other R x Kind.Page

  pub mismatch : Core → Register → Bool
  mismatch (Core.select s) R = mismatch_in s R
  mismatch (Core.disjunction a b) R = mismatch a R || mismatch b R
  mismatch (Core.conjunction a b) R = mismatch a R || mismatch b R

-- A choice for what is undefined; by `mixed_free` it makes no difference where a run has no mismatch.
abbrev pub no_mixed : Mixed
no_mixed = record { compared = λ c v w. false; followed = λ v. false }

-- The core query selects the page.
abbrev pub selects : Core → Register → Page → Bool
selects q R p = Q q no_mixed R p

-- The marks of a run, a truth value a page in place order, or 23.
unfoldable pub run : Core → Register → Answer (List Bool)
run q R = cond (mismatch q R) (refused 23) (accepted (map (selects q R) R.pages))

-- 4.4.3: a well-typed query.
unfoldable mutual
  pub well_typed_in : Selector → Typing → Bool
  well_typed_in (Selector.category x) Γ = true
  well_typed_in (Selector.namespace x) Γ = true
  well_typed_in (Selector.existence x) Γ = true
  well_typed_in (Selector.subquery x q) Γ = has_kind (Γ x) Kind.Page && well_typed q Γ
  well_typed_in (Selector.article c x) Γ = true
  well_typed_in (Selector.value x c v) Γ = has_kind (Γ x) (kind_of_constant v)
  well_typed_in (Selector.link x c r) Γ = has_kind (Γ x) Kind.Page

  pub well_typed : Core → Typing → Bool
  well_typed (Core.select s) Γ = well_typed_in s Γ
  well_typed (Core.disjunction a b) Γ = well_typed a Γ && well_typed b Γ
  well_typed (Core.conjunction a b) Γ = well_typed a Γ && well_typed b Γ
