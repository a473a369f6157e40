-- Type soundness, thesis 5.3.5: a query that elaborates is well-typed by 4.4.3.
use Rattle.std.specs.Prelude.{Option, Some, None}
use Prim.Native.Nat.{ℕ}
use mathlib.Core.Path.{◌≡◌, refl, ap, subst}
use mathlib.Core.Bool.{Bool, true, false, cond}
use mathlib.Core.List.{[]}
use Rattle.text.specs.Bytes.{Bytes}
use Rattle.values.specs.declared.Kind.{Kind}
use Rattle.values.specs.Names.{Reference, bare, qualified, reference, is_reference, composed_reference}
use Rattle.values.specs.Values.{Constant, kind_of_constant, map_option, scalar, read_scalar, read_constant}
use Rattle.language.specs.Answer.{◌>>=◌}
use Rattle.language.specs.Comparators.{is_equal, in_any_namespace}
use Rattle.language.specs.Register.{Typing, has_kind}
use Rattle.language.specs.Surface.{Chain, single, chain, Categories, Identifiers, Alternatives, Query}
use Rattle.language.specs.Core.{Selector, Core}
use Rattle.language.specs.Elaboration.{compared, article_stands, within, elaborate_reference, elaborate_identifiers, elaborate_categories, elaborate_constant, elaborate_value, inside, joined, along, elaborate_in, elaborate}
use Rattle.language.specs.Semantics.{well_typed}
use Rattle.language.specs.declared.Comparator.{Comparator}
use Rattle.language.specs.declared.SurfaceComparator.{SurfaceComparator}
use Rattle.language.proofs.AllComparators.{of_cond, of_compared}
use Rattle.language.proofs.Options.{OnSome}
use Rattle.language.proofs.Members.{both_true}
use Rattle.values.proofs.Sameness.{kind_refl}

-- the constant of a kind has that kind
pub constant_kind : (k : Kind) (s : Bytes) → OnSome (λ v. kind_of_constant v ≡ k) (read_constant k s)
constant_kind Kind.Page s = tt
constant_kind (Kind.Scalar k) s = go (read_scalar k s)
  where
    go : (o : Option ℕ) → OnSome (λ v. kind_of_constant v ≡ Kind.Scalar k) (map_option (scalar k) o)
    go None = tt
    go (Some c) = refl
constant_kind Kind.String s = refl

module _ (Γ : Typing) where
  abbrev Typed : Core → Type 0
  Typed c = well_typed c Γ ≡ true

  or_typed : (a b : Core) → Typed a → Typed b → Typed (Core.disjunction a b)
  unfolding well_typed
  or_typed a b h i = both_true h i

  -- a comparison is as well-typed as its parts
  compared_typed : (f : Comparator → Core) (c : SurfaceComparator) → ((d : Comparator) → Typed (f d)) → Typed (compared f c)
  compared_typed f c h = of_compared Typed f c or_typed h

  article_typed : (x : Bytes) (c : SurfaceComparator) → Typed (article_stands x c)
  unfolding well_typed
  article_typed x c = compared_typed (λ d. Core.select (Selector.article d x)) c (λ d. refl)

  within_typed : (n x : Bytes) (c : SurfaceComparator) → Typed (within n (article_stands x c))
  unfolding well_typed
  within_typed n x c = both_true refl (article_typed x c)

  reference_typed : (c : SurfaceComparator) (r : Reference) → Typed (elaborate_reference c r)
  unfolding elaborate_reference
  reference_typed c (bare x) = of_cond Typed (is_equal c) (within [] (article_stands x c)) (article_stands x c) (within_typed [] x c) (article_typed x c)
  reference_typed c (qualified n x) = of_cond Typed (in_any_namespace c) (article_stands x c) (within n (article_stands x c)) (article_typed x c) (within_typed n x c)

  identifiers_typed : (i : Identifiers) → Typed (elaborate_identifiers i)
  unfolding elaborate_identifiers well_typed
  identifiers_typed (Identifiers.namespace n) = refl
  identifiers_typed (Identifiers.reference c r) = reference_typed c r
  identifiers_typed (Identifiers.either a b) = both_true (identifiers_typed a) (identifiers_typed b)

  categories_typed : (c : Categories) → Typed (elaborate_categories c)
  unfolding elaborate_categories well_typed
  categories_typed (Categories.one x) = refl
  categories_typed (Categories.either a b) = both_true (categories_typed a) (categories_typed b)

  constant_typed : (x : Bytes) (c : SurfaceComparator) (k : Kind) → has_kind (Γ x) k ≡ true → (o : Option Constant) → OnSome (λ v. kind_of_constant v ≡ k) o → OnSome Typed (map_option (elaborate_constant x c) o)
  unfolding well_typed elaborate_constant
  constant_typed x c k h None e = tt
  constant_typed x c k h (Some v) e = compared_typed (λ d. Core.select (Selector.value x d v)) c (λ d. rw e h)

  value_typed : (x : Bytes) (c : SurfaceComparator) (v : Bytes) (k : Kind) → has_kind (Γ x) k ≡ true → OnSome Typed (elaborate_value x c v k)
  unfolding elaborate_value well_typed
  value_typed x c v Kind.Page h = go (is_reference (reference v))
    where
      go : (b : Bool) → OnSome Typed (cond b (Some (Core.select (Selector.link x c (composed_reference (reference v))))) None)
      go true = h
      go false = tt
  value_typed x c v (Kind.Scalar k) h = constant_typed x c (Kind.Scalar k) h (read_constant (Kind.Scalar k) v) (constant_kind (Kind.Scalar k) v)
  value_typed x c v Kind.String h = constant_typed x c Kind.String h (read_constant Kind.String v) (constant_kind Kind.String v)

  piece_typed : (x : Bytes) (c : SurfaceComparator) (v : Bytes) → OnSome Typed (Γ x >>= elaborate_value x c v)
  piece_typed x c v = go (Γ x) refl
    where
      go : (o : Option Kind) → Γ x ≡ o → OnSome Typed (o >>= elaborate_value x c v)
      go None e = tt
      go (Some k) e = value_typed x c v k (rw e (kind_refl k))

  inside_typed : (x : Bytes) (o : Option Core) → OnSome Typed o → OnSome Typed (inside x (Γ x) o)
  unfolding inside well_typed
  inside_typed x o h = go (Γ x) refl o h
    where
      go : (k : Option Kind) → Γ x ≡ k → (o : Option Core) → OnSome Typed o → OnSome Typed (inside x k o)
      go None e o h = tt
      go (Some Kind.Page) e None h = tt
      go (Some Kind.Page) e (Some c) h = both_true (ap (λ k. has_kind k Kind.Page) e) h
      go (Some (Kind.Scalar k)) e o h = tt
      go (Some Kind.String) e o h = tt

  joined_typed : (k : Core → Core → Core) → ((a b : Core) → Typed a → Typed b → Typed (k a b)) → (a b : Option Core) → OnSome Typed a → OnSome Typed b → OnSome Typed (joined k a b)
  unfolding joined
  joined_typed k law None b h i = tt
  joined_typed k law (Some a) None h i = tt
  joined_typed k law (Some a) (Some b) h i = law a b h i

  along_typed : (p : Chain) (f : Bytes → Option Core) → ((x : Bytes) → OnSome Typed (f x)) → OnSome Typed (along Γ p f)
  unfolding along
  along_typed (single x) f h = h x
  along_typed (chain x p) f h = inside_typed x (along Γ p f) (along_typed p f h)

  and_typed : (a b : Core) → Typed a → Typed b → Typed (Core.conjunction a b)
  unfolding well_typed
  and_typed a b h i = both_true h i

  mutual
    unfolding elaborate well_typed

    alternatives_typed : (a : Alternatives) (x : Bytes) → OnSome Typed (elaborate_in a Γ x)
    alternatives_typed Alternatives.existence x = refl
    alternatives_typed (Alternatives.value c v) x = piece_typed x c v
    alternatives_typed (Alternatives.subquery q) x = inside_typed x (elaborate q Γ) (query_typed q)
    alternatives_typed (Alternatives.either a b) x = joined_typed Core.disjunction or_typed (elaborate_in a Γ x) (elaborate_in b Γ x) (alternatives_typed a x) (alternatives_typed b x)

    query_typed : (q : Query) → OnSome Typed (elaborate q Γ)
    query_typed (Query.category c) = categories_typed c
    query_typed (Query.identifier i) = identifiers_typed i
    query_typed (Query.property p a) = along_typed p (λ x. elaborate_in a Γ x) (λ x. alternatives_typed a x)
    query_typed (Query.disjunction a b) = joined_typed Core.disjunction or_typed (elaborate a Γ) (elaborate b Γ) (query_typed a) (query_typed b)
    query_typed (Query.conjunction a b) = joined_typed Core.conjunction and_typed (elaborate a Γ) (elaborate b Γ) (query_typed a) (query_typed b)

-- The theorem.
pub elaborated_typed : (q : Query) (Γ : Typing) (c : Core) → elaborate q Γ ≡ Some c → well_typed c Γ ≡ true
elaborated_typed q Γ c e = subst (OnSome (Typed Γ)) e (query_typed Γ q)
