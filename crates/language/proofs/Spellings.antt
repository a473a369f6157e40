-- Replacing a name in a query by another spelling of it changes no answer.
use Rattle.std.specs.Prelude.{Some}
use mathlib.Core.Path.{◌≡◌, refl, ap, ap₂}
use mathlib.Core.Bool.{true}
use Rattle.text.specs.Bytes.{Bytes}
use Rattle.names.specs.Names.{composed_name}
use Rattle.names.proofs.Composed.{two_spellings}
use Rattle.values.specs.Names.{Reference, reference, is_reference, composed_reference}
use Rattle.values.specs.Names as Names
use Rattle.values.specs.declared.Kind.{Kind}
use Rattle.language.specs.Register.{Page}
use Rattle.language.specs.Surface.{Chain, Categories, Identifiers, Alternatives, Query, composed_chain, composed_categories, composed_identifiers, composed_in, composed_query}
use Rattle.language.specs.Surface as Surface
use Rattle.language.specs.Elaboration.{elaborate_value}
use Rattle.language.specs.Direct.{means_value}
use Rattle.language.specs.Spellings.{TwoSpellings, TwoReferences, TwoChains, TwoCategories, TwoIdentifiers, TwoAlternatives, TwoQueries}
use Rattle.language.specs.declared.SurfaceComparator.{SurfaceComparator}

spelled : (x y : Bytes) → TwoSpellings x y → composed_name x ≡ composed_name y
spelled x y t = two_spellings x y t.first t.second t.equivalent

references_one : (r s : Reference) → TwoReferences r s → composed_reference r ≡ composed_reference s
references_one r s (TwoReferences.bare x y t) = ap Names.bare (spelled x y t)
references_one r s (TwoReferences.qualified n m x y t u) = ap₂ Names.qualified (spelled n m t) (spelled x y u)

chains_one : (p q : Chain) → TwoChains p q → composed_chain p ≡ composed_chain q
unfolding composed_chain
chains_one p q (TwoChains.single x y t) = ap Surface.single (spelled x y t)
chains_one p q (TwoChains.chain x y p' q' t u) = ap₂ Surface.chain (spelled x y t) (chains_one p' q' u)

categories_one : (a b : Categories) → TwoCategories a b → composed_categories a ≡ composed_categories b
unfolding composed_categories
categories_one a b (TwoCategories.one x y t) = ap Categories.one (spelled x y t)
categories_one a b (TwoCategories.either a' b' c d t u) = ap₂ Categories.either (categories_one a' c t) (categories_one b' d u)

identifiers_one : (a b : Identifiers) → TwoIdentifiers a b → composed_identifiers a ≡ composed_identifiers b
unfolding composed_identifiers
identifiers_one a b (TwoIdentifiers.namespace n m t) = ap Identifiers.namespace (spelled n m t)
identifiers_one a b (TwoIdentifiers.reference c r s t) = ap (Identifiers.reference c) (references_one r s t)
identifiers_one a b (TwoIdentifiers.either a' b' c d t u) = ap₂ Identifiers.either (identifiers_one a' c t) (identifiers_one b' d u)

-- The surface queries are equal.
mutual
  unfolding composed_in composed_query

  alternatives_one : (a b : Alternatives) → TwoAlternatives a b → composed_in a ≡ composed_in b
  alternatives_one a b (TwoAlternatives.same a') = refl
  alternatives_one a b (TwoAlternatives.subquery q r t) = ap Alternatives.subquery (queries_one q r t)
  alternatives_one a b (TwoAlternatives.either a' b' c d t u) = ap₂ Alternatives.either (alternatives_one a' c t) (alternatives_one b' d u)

  pub queries_one : (q r : Query) → TwoQueries q r → composed_query q ≡ composed_query r
  queries_one q r (TwoQueries.category a b t) = ap Query.category (categories_one a b t)
  queries_one q r (TwoQueries.identifier a b t) = ap Query.identifier (identifiers_one a b t)
  queries_one q r (TwoQueries.property p p' a b t u) = ap₂ Query.property (chains_one p p' t) (alternatives_one a b u)
  queries_one q r (TwoQueries.disjunction a b c d t u) = ap₂ Query.disjunction (queries_one a c t) (queries_one b d u)
  queries_one q r (TwoQueries.conjunction a b c d t u) = ap₂ Query.conjunction (queries_one a c t) (queries_one b d u)

-- A piece on a page property: two spellings of its reference are one core query, and mean the same.
module _ (v w : Bytes) (h : is_reference (reference v) ≡ true) (k : is_reference (reference w) ≡ true) (t : TwoReferences (reference v) (reference w)) where
  pub pieces_one : (x : Bytes) (c : SurfaceComparator) → elaborate_value x c v Kind.Page ≡ elaborate_value x c w Kind.Page
  unfolding elaborate_value
  pieces_one x c = rw (h, k, references_one (reference v) (reference w) t)

  pub meanings_one : (x : Bytes) (c : SurfaceComparator) (p : Page) → means_value x c v (Some Kind.Page) p ≡ means_value x c w (Some Kind.Page) p
  unfolding means_value
  meanings_one x c p = rw (h, k, references_one (reference v) (reference w) t)
