-- A run without a mismatch compares no values of two kinds: whatever a comparison of two kinds were to answer, and wherever a
-- value that is no link were to lead, the marks are the same (thesis 4.5.2; document 01, "Text to core").
use mathlib.Core.Path.{◌≡◌, refl, ap₂}
use mathlib.Core.Bool.{Bool, true, false, ◌&&◌, ◌||◌, false≢true}
use mathlib.Core.List.{Memᴰ, map}
use Rattle.values.specs.declared.Kind.{Kind}
use Rattle.values.specs.Names.{Reference}
use Rattle.values.specs.Values.{Constant, scalar, string, Value, plain, link, kind_of, kind_of_constant, same_kind}
use Rattle.language.specs.Register.{Page, Register}
use Rattle.language.specs.Core.{Selector, Core}
use Rattle.language.specs.Semantics.{Mixed, Cv, Cl, follows, S, Q, some_other, mismatch_in, mismatch}
use Rattle.language.specs.declared.Comparator.{Comparator}
use Rattle.language.specs.declared.SurfaceComparator.{SurfaceComparator}
use Rattle.language.proofs.Members.{or_false, map_same}
use Rattle.language.proofs.Holding.{holds_same, leads_same, kind_there}

module _ (u w : Mixed) where
  -- a value beside a constant of its kind
  compared_free : (c : Comparator) (v : Constant) (a : Value) → same_kind (kind_of a) (kind_of_constant v) ≡ true → Cv u c v a ≡ Cv w c v a
  unfolding Cv
  compared_free c (scalar k x) (plain (scalar j y)) e = rw e
  compared_free c (scalar k x) (plain (string y)) e = absurd (false≢true e)
  compared_free c (scalar k x) (link i) e = absurd (false≢true e)
  compared_free c (string x) (plain (scalar k y)) e = absurd (false≢true e)
  compared_free c (string x) (plain (string y)) e = refl
  compared_free c (string x) (link i) e = absurd (false≢true e)

  -- a link
  meant_free : (c : SurfaceComparator) (r : Reference) (a : Value) → same_kind (kind_of a) Kind.Page ≡ true → Cl u c r a ≡ Cl w c r a
  unfolding Cl
  meant_free c r (plain (scalar k x)) e = absurd (false≢true e)
  meant_free c r (plain (string x)) e = absurd (false≢true e)
  meant_free c r (link i) e = refl

  module _ (R : Register) where
    -- a link, followed by tests that answer alike
    followed_free : (f g : Page → Bool) → ((p : Page) → Memᴰ p R.pages → f p ≡ g p) → (a : Value) → same_kind (kind_of a) Kind.Page ≡ true → follows u R f a ≡ follows w R g a
    unfolding follows
    followed_free f g r (plain (scalar k x)) e = absurd (false≢true e)
    followed_free f g r (plain (string x)) e = absurd (false≢true e)
    followed_free f g r (link i) e = leads_same R f g r (link i)

    mutual
      unfolding Q mismatch

      selector_free : (s : Selector) → mismatch_in s R ≡ false → (p : Page) → Memᴰ p R.pages → S s u R p ≡ S s w R p
      selector_free (Selector.category x) h p m = refl
      selector_free (Selector.namespace x) h p m = refl
      selector_free (Selector.existence x) h p m = refl
      selector_free (Selector.subquery x q) h p m =
          let t = or_false (some_other R x Kind.Page) (mismatch q R) h in
          holds_same x _ _ p (λ a n s. followed_free (λ p. Q q u R p) (λ p. Q q w R p) (λ p m. query_free q t.1 p m) a.value (kind_there R x Kind.Page t.0 p m a n s))
      selector_free (Selector.article c x) h p m = refl
      selector_free (Selector.value x c v) h p m =
          holds_same x _ _ p (λ a n s. compared_free c v a.value (kind_there R x (kind_of_constant v) h p m a n s))
      selector_free (Selector.link x c r) h p m =
          holds_same x _ _ p (λ a n s. meant_free c r a.value (kind_there R x Kind.Page h p m a n s))

      query_free : (q : Core) → mismatch q R ≡ false → (p : Page) → Memᴰ p R.pages → Q q u R p ≡ Q q w R p
      query_free (Core.select s) h p m = selector_free s h p m
      query_free (Core.disjunction a b) h p m =
          let t = or_false (mismatch a R) (mismatch b R) h in ap₂ ◌||◌ (query_free a t.0 p m) (query_free b t.1 p m)
      query_free (Core.conjunction a b) h p m =
          let t = or_false (mismatch a R) (mismatch b R) h in ap₂ ◌&&◌ (query_free a t.0 p m) (query_free b t.1 p m)

-- The theorem.
pub mixed_free : (q : Core) (R : Register) → mismatch q R ≡ false → (u w : Mixed) → map (Q q u R) R.pages ≡ map (Q q w R) R.pages
mixed_free q R h u w = map_same (Q q u R) (Q q w R) R.pages (query_free u w R q h)
