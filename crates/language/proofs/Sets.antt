-- The meaning page by page is membership in the page sets of the thesis.
use Rattle.std.specs.Prelude.{Option, Some, None}
use mathlib.Core.Option.{some, IsSome}
use mathlib.Core.Path.{◌≡◌, refl, sym, ap, ◌∙◌, subst}
use mathlib.Core.Bool.{Bool, true, false, cond, not, ◌&&◌, ◌||◌, true≢false, false≢true}
use mathlib.Core.List.Memᴰ
use mathlib.Core.List.{List, [], ◌∷◌, Memᴰ}
use mathlib.Core.Logic.{◌⊎◌, inl, inr, ⊎_elim, ⊎_map, ◌↔◌}
use borrow.Author.Tests.{not-true}
use Rattle.text.specs.Bytes.{Bytes, order_of, same, any}
use Rattle.std.specs.declared.cmp.Ordering.{Ordering}
use Rattle.text.proofs.Laws.{same_eq, same_refl, order_eq, eq_order}
use Rattle.values.specs.Names.{Identifier, Reference, same_identifier}
use Rattle.values.specs.Values.{Constant, Value, plain, link, order_constants, is_equal_order}
use Rattle.values.proofs.Sameness.{identifier_eq, identifier_refl, value_eq, value_refl}
use Rattle.language.specs.Answer.{found}
use Rattle.language.specs.Register.{Held, Page, Register, holds, leads, distinct, same_page}
use Rattle.language.specs.Rules.{is_register}
use Rattle.language.specs.Core.{Selector, Core}
use Rattle.language.specs.Semantics.{stands, Ca, Cv, Cl, follows, S, Q, no_mixed, selects}
use Rattle.language.specs.Sets.{𝒫, ◌∈◌, ◌∩◌, ◌≠∅, dom, idents, compares, compares_as, meant, matches, page_set, page_of, page_named, database_of}
use Rattle.language.specs.Sets as Sets
use Rattle.language.specs.Comparators.{strictly, or_equal}
use Rattle.language.specs.References.{stands_as, namespace_meant, article_meant, is_meant}
use Rattle.language.specs.declared.Comparator.{Comparator}
use Rattle.language.specs.declared.SurfaceComparator.{SurfaceComparator}
use Rattle.language.proofs.EachComparator.{stands_each}
use Rattle.language.proofs.Members.{and_true, both_true, any_at, any_found, any_mem}
use Rattle.language.proofs.Rules.{register_rules}

-- a test of sameness, and of either
same_is : (x y : Bytes) → (same x y ≡ true) ↔ (x ≡ y)
same_is x y = (same_eq x y, λ e. ap (same x) (sym e) ∙ same_refl x)

either : (a b : Bool) → (a || b ≡ true) ↔ ((a ≡ true) ⊎ (b ≡ true))
either true b = (λ h. inl refl, λ h. refl)
either false b = (inr, ⊎_elim (λ e. absurd (false≢true e)) (λ e. e))

-- what a comparator asks of an order
is_equal_lem : (o : Ordering) → stands Comparator.Equal o ≡ true → o ≡ Ordering.Equal
is_equal_lem Ordering.Less h = absurd (false≢true h)
is_equal_lem Ordering.Equal h = refl
is_equal_lem Ordering.Greater h = absurd (false≢true h)

is_greater : (o : Ordering) → stands Comparator.Greater o ≡ true → o ≡ Ordering.Greater
is_greater Ordering.Less h = absurd (false≢true h)
is_greater Ordering.Equal h = absurd (false≢true h)
is_greater Ordering.Greater h = refl

is_less_lem : (o : Ordering) → stands Comparator.Less o ≡ true → o ≡ Ordering.Less
is_less_lem Ordering.Less h = refl
is_less_lem Ordering.Equal h = absurd (false≢true h)
is_less_lem Ordering.Greater h = absurd (false≢true h)

unequal : (o : Ordering) → (o ≡ Ordering.Equal → ⊥) → stands Comparator.Unequal o ≡ true
unequal Ordering.Less n = refl
unequal Ordering.Equal n = absurd (n refl)
unequal Ordering.Greater n = refl

-- of two things that are equal where their order is
compared : {A : Type 0} (c : Comparator) (x y : A) (o : Ordering) → (o ≡ Ordering.Equal) ↔ (x ≡ y) → (stands c o ≡ true) ↔ compares c x y o
compared Comparator.Equal x y o e = (λ h. e.0 (is_equal_lem o h), λ p. ap (stands Comparator.Equal) (e.1 p))
compared Comparator.Unequal x y o e =
    (λ h p. true≢false (sym h ∙ ap (stands Comparator.Unequal) (e.1 p)), λ n. unequal o (λ p. n (e.0 p)))
compared Comparator.Greater x y o e = (is_greater o, ap (stands Comparator.Greater))
compared Comparator.Less x y o e = (is_less_lem o, ap (stands Comparator.Less))

-- 4.5.1
names_compared : (c : Comparator) (x y : Bytes) → (Ca c x y ≡ true) ↔ Sets.Ca c x y
unfolding Ca
names_compared c x y = compared c x y (order_of x y) (order_eq x y, eq_order x y)

-- 5.3.1, the comparators as written
written_compared : {A : Type 0} (c : SurfaceComparator) (x y : A) (o : Ordering) → (o ≡ Ordering.Equal) ↔ (x ≡ y) → (stands_as c o ≡ true) ↔ compares_as c x y o
written_compared c x y o e = rw (← stands_each c o) (go (or_equal c) refl)
  where
    strict : (stands (strictly c) o ≡ true) ↔ compares (strictly c) x y o
    strict = compared (strictly c) x y o e

    equal : (stands Comparator.Equal o ≡ true) ↔ (x ≡ y)
    equal = compared Comparator.Equal x y o e

    go : (t : Bool) → or_equal c ≡ t → (cond t (stands (strictly c) o || stands Comparator.Equal o) (stands (strictly c) o) ≡ true) ↔ compares_as c x y o
    go true q =
        let or = either (stands (strictly c) o) (stands Comparator.Equal o) in
        (λ h. ⊎_map strict.0 (λ k. (q, equal.0 k)) (or.0 h), λ t. or.1 (⊎_map strict.1 (λ k. equal.1 k.1) t))
    go false q = (λ h. inl (strict.0 h), λ t. ⊎_elim strict.1 (λ k. absurd (false≢true (sym q ∙ k.0))) t)

-- the identifiers that a reference means
namespace_meant_lem : (o : Option Bytes) (x : Bytes) → (found o (λ n. same x n) true ≡ true) ↔ ((n : Bytes) → o ≡ Some n → x ≡ n)
namespace_meant_lem None x = (λ h n e. let i : ◌≡◌ {A = Option Bytes} None (Some n) = e in cc, λ f. refl)
namespace_meant_lem (Some m) x = (λ h n e. let i : m ≡ n = cc in same_eq x m h ∙ i, λ f. (same_is x m).1 (f m refl))

identifiers_meant : (c : SurfaceComparator) (r : Reference) (i : Identifier) → (is_meant c r i ≡ true) ↔ (i ∈ meant c r)
unfolding is_meant
identifiers_meant c r i =
    let n = namespace_meant_lem (namespace_meant c r) i.namespace in
    let a = written_compared c i.article (article_meant r) (order_of i.article (article_meant r)) (order_eq i.article (article_meant r), eq_order i.article (article_meant r)) in (
      λ h. let t = and_true _ _ h in (n.0 t.0, a.0 t.1),
      λ t. both_true (n.1 t.0) (a.1 t.1),
    )

-- 4.5.2
ordered_equal : (v w : Constant) (o : Ordering) → order_constants v w ≡ Some o → (o ≡ Ordering.Equal) ↔ (v ≡ w)
ordered_equal v w o e =
    (λ p. inside (value_eq (plain v) (plain w) (ap is_equal_order (e ∙ ap Some p))), λ p. is_equal_lem o (ap is_equal_order (sym e ∙ ap (order_constants v) (sym p)) ∙ value_refl (plain v)))
  where
    inside : plain v ≡ plain w → v ≡ w
    inside p = cc

constants_compared : (c : Comparator) (v w : Constant) → (Cv no_mixed c w (plain v) ≡ true) ↔ Sets.Cv c v w
unfolding Cv
constants_compared c v w = go (order_constants v w) refl
  where
    go : (q : Option Ordering) → order_constants v w ≡ q → (found q (stands c) false ≡ true) ↔ ((o : Ordering) × (q ≡ Some o) × compares c v w o)
    go None e = (λ h. absurd (false≢true h), λ t. let i : ◌≡◌ {A = Option Ordering} None (Some t.0) = t.1 in cc)
    go (Some o) e =
        let is = compared c v w o (ordered_equal v w o e) in
        (λ h. (o, refl, is.0 h), λ t. let i : t.0 ≡ o = cc in is.1 (subst (compares c v w) i t.2))

-- a page's categories, and its values under a property
category_in : (x : Bytes) (l : List Bytes) → (any (same x) l ≡ true) ↔ Memᴰ x l
category_in x l =
    (λ h. let a = any_found (same x) l h in Memᴰ.cast (same_eq x a.0 a.2) a.1, λ m. any_mem (same x) m (same_refl x))

value_in : (x : Bytes) (f : Value → Bool) (p : Page) → (holds x f p ≡ true) ↔ ((v : Value) × (v ∈ (page_of p).props x) × (f v ≡ true))
unfolding holds
value_in x f p = (there, λ t. any_mem test t.1 (both_true (same_refl x) t.2))
  where
    test : Held → Bool
    test h = same h.property x && f h.value

    there : any test p.values ≡ true → (v : Value) × (v ∈ (page_of p).props x) × (f v ≡ true)
    there e =
        let h = any_found test p.values e in
        let t = and_true (same h.0.property x) (f h.0.value) h.2 in
        (h.0.value, Memᴰ.cast (λ k. record { property = sym (same_eq h.0.property x t.0) k; value = h.0.value }) h.1, t.1)

-- those of one constructor, where no other value passes
made_in_lem : {A : Type 0} (make : A → Value) (P : A → Type 0) (x : Bytes) (f : Value → Bool) (p : Page)
    → ((v : Value) → f v ≡ true → (a : A) × (v ≡ make a) × P a) → ((a : A) → P a → f (make a) ≡ true)
    → (holds x f p ≡ true) ↔ ((a : A) × (make a ∈ (page_of p).props x) × P a)
made_in_lem make P x f p there back =
    let is = value_in x f p in (
      λ h. let v = is.0 h in let a = there v.0 v.2 in (a.0, subst ((page_of p).props x) a.1 v.1, a.2),
      λ t. is.1 (make t.0, t.1, back t.0 t.2),
    )

constants_in : (x : Bytes) (c : Comparator) (w : Constant) (p : Page)
    → (holds x (Cv no_mixed c w) p ≡ true) ↔ ((v : Constant) × (plain v ∈ (page_of p).props x) × Sets.Cv c v w)
unfolding Cv
constants_in x c w p = made_in_lem plain (λ v. Sets.Cv c v w) x (Cv no_mixed c w) p there (λ v. (constants_compared c v w).1)
  where
    there : (v : Value) → Cv no_mixed c w v ≡ true → (a : Constant) × (v ≡ plain a) × Sets.Cv c a w
    there (plain a) h = (a, refl, (constants_compared c a w).0 h)
    there (link i) h = absurd (false≢true h)

links_meant : (x : Bytes) (c : SurfaceComparator) (r : Reference) (p : Page) → (holds x (Cl no_mixed c r) p ≡ true) ↔ (idents ((page_of p).props x) ∩ meant c r ≠∅)
unfolding Cl
links_meant x c r p =
    let t = made_in_lem link (meant c r) x (Cl no_mixed c r) p there (λ i. (identifiers_meant c r i).1) in
    (λ h. let j = t.0 h in (j.0, (j.1, j.2)), λ j. t.1 (j.0, j.1.0, j.1.1))
  where
    there : (v : Value) → Cl no_mixed c r v ≡ true → (i : Identifier) × (v ≡ link i) × (i ∈ meant c r)
    there (plain a) h = absurd (false≢true h)
    there (link i) h = (i, refl, (identifiers_meant c r i).0 h)

-- The page that is named: that of the one page with the identifier.
named : {p : Page} (l : List Page) → distinct same_page l ≡ true → Memᴰ p l → page_named l p.identifier ≡ some (page_of p)
unfolding distinct page_named
named {p = p} [] h x' = elim x' [ ]
named (x ∷ l) h (Memᴰ.head e) = rw (e, identifier_refl x.identifier)
named (x ∷ l) h (Memᴰ.tail m) =
    let t = and_true (not (any (same_page x) l)) (distinct same_page l) h in
    rw (any_at (same_page x) (not-true (any (same_page x) l) t.0) m) (named l t.1 m)

-- What the database knows is a page.
known : (l : List Page) (i : Identifier) → i ∈ dom (page_named l) → (p : Page) × Memᴰ p l × (same_identifier p.identifier i ≡ true)
unfolding page_named
known [] i h = absurd h
known (x ∷ l) i h = go (same_identifier x.identifier i) refl h (known l i)
  where
    Found : List Page → Type 0
    Found l = (p : Page) × Memᴰ p l × (same_identifier p.identifier i ≡ true)

    go : (b : Bool) → same_identifier x.identifier i ≡ b → IsSome (cond b (some (page_of x)) (page_named l i)) → (i ∈ dom (page_named l) → Found l) → Found (x ∷ l)
    go true e h later = (x, Memᴰ.head refl, e)
    go false e h later = let t = later h in (t.0, Memᴰ.tail t.1, t.2)

-- The pages of R that pass the test are those in the set, and all in the set are pages that the database knows.
record IsSet (R : Register) (test : Page → Bool) (X : 𝒫 Identifier) : Type 0 where
  page : (p : Page) → Memᴰ p R.pages → (test p ≡ true) ↔ (p.identifier ∈ X)
  inside : (i : Identifier) → i ∈ X → i ∈ dom (database_of R)

module _ (R : Register) (once : distinct same_page R.pages ≡ true) where
  -- links to pages that pass the test, and links in the set
  module _ (test : Page → Bool) (X : 𝒫 Identifier) (is : IsSet R test X) where
    to : Identifier → Page → Bool
    to j p = same_identifier p.identifier j && test p

    led : (v : Value) → follows no_mixed R test v ≡ true → (j : Identifier) × (v ≡ link j) × (j ∈ X)
    unfolding follows leads to
    led (plain c) h = absurd (false≢true h)
    led (link j) h =
        let p = any_found (to j) R.pages h in
        let t = and_true (same_identifier p.0.identifier j) (test p.0) p.2 in
        (j, refl, subst X (identifier_eq p.0.identifier j t.0) ((is.page p.0 p.1).0 t.1))

    leading : (j : Identifier) → j ∈ X → follows no_mixed R test (link j) ≡ true
    unfolding follows leads to
    leading j h =
        let p = known R.pages j (is.inside j h) in
        let one = identifier_eq p.0.identifier j p.2 in
        any_mem (to j) p.1 (both_true p.2 ((is.page p.0 p.1).1 (subst X (sym one) h)))

    links_in : (x : Bytes) (p : Page) → (holds x (follows no_mixed R test) p ≡ true) ↔ (idents ((page_of p).props x) ∩ X ≠∅)
    links_in x p =
        let t = made_in_lem link X x (follows no_mixed R test) p led leading in
        (λ h. let j = t.0 h in (j.0, (j.1, j.2)), λ j. t.1 (j.0, j.1.0, j.1.1))

  mutual
    unfolding Q page_set

    selector_set : (s : Selector) (p : Page) → Memᴰ p R.pages → (S s no_mixed R p ≡ true) ↔ matches s p.identifier (database_of R)
    selector_set (Selector.category x) p m = rw (named R.pages once m) (category_in x p.categories)
    selector_set (Selector.namespace x) p m = same_is p.identifier.namespace x
    selector_set (Selector.existence x) p m =
        rw (named R.pages once m)
        (let t = value_in x (λ v. true) p in (λ h. let v = t.0 h in (v.0, v.1), λ v. t.1 (v.0, v.1, refl)))
    selector_set (Selector.subquery x q) p m =
        rw (named R.pages once m)
        (links_in (λ p. Q q no_mixed R p) (page_set q (database_of R)) (query_set q) x p)
    selector_set (Selector.article c x) p m = names_compared c p.identifier.article x
    selector_set (Selector.link x c r) p m = rw (named R.pages once m) (links_meant x c r p)
    selector_set (Selector.value x c w) p m = rw (named R.pages once m) (constants_in x c w p)

    query_set : (q : Core) → IsSet R (λ p. Q q no_mixed R p) (page_set q (database_of R))
    query_set (Core.select s) =
        record {
          page = λ p m. (λ h. (rw (named R.pages once m) tt, (selector_set s p m).0 h), λ h. (selector_set s p m).1 h.1);
          inside = λ i h. h.0;
        }
    query_set (Core.disjunction a b) =
        record {
          page = λ p m.
              let t = either (Q a no_mixed R p) (Q b no_mixed R p) in (
                λ h. ⊎_map ((query_set a).page p m).0 ((query_set b).page p m).0 (t.0 h),
                λ h. t.1 (⊎_map ((query_set a).page p m).1 ((query_set b).page p m).1 h),
              );
          inside = λ i h. ⊎_elim ((query_set a).inside i) ((query_set b).inside i) h;
        }
    query_set (Core.conjunction a b) =
        record {
          page = λ p m. (
            λ h. let t = and_true (Q a no_mixed R p) (Q b no_mixed R p) h in (((query_set a).page p m).0 t.0, ((query_set b).page p m).0 t.1),
            λ h. both_true (((query_set a).page p m).1 h.0) (((query_set b).page p m).1 h.1),
          );
          inside = λ i h. (query_set a).inside i h.0;
        }

-- A page of a register is selected exactly where its identifier is in the page set.
pub page_set_lem : (c : Core) (R : Register) → is_register R ≡ true → (p : Page) → Memᴰ p R.pages → (selects c R p ≡ true) ↔ (p.identifier ∈ page_set c (database_of R))
page_set_lem c R r = (query_set R (register_rules R r).pages_once c).page

-- A page set has no identifier but those of the register's pages.
pub page_set_known : (c : Core) (R : Register) → is_register R ≡ true → (i : Identifier) → i ∈ page_set c (database_of R) → (p : Page) × Memᴰ p R.pages × (p.identifier ≡ i)
page_set_known c R r i h =
    let p = known R.pages i ((query_set R (register_rules R r).pages_once c).inside i h) in (p.0, p.1, identifier_eq p.0.identifier i p.2)
