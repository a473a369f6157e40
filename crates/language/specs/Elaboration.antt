-- Elaboration of surface queries to core queries: thesis 5.3.1 to 5.3.4, with document 01's decisions ("Text to core").
use Rattle.std.specs.Prelude.{Bool, true, false, cond, [], ltb, Option, Some, None}
use Rattle.text.specs.Bytes.{Bytes, any}
use Rattle.values.specs.declared.Kind.{Kind}
use Rattle.values.specs.Names.{Reference, bare, qualified, reference, is_reference, composed_reference}
use Rattle.values.specs.Values.{Constant, map_option, read_constant}
use Rattle.language.specs.Answer.{Answer, refused, accepted, ◌>>=◌, found}
use Rattle.language.specs.Comparators.{is_equal, strictly, or_equal, in_any_namespace}
use Rattle.language.specs.Register.{Typing}
use Rattle.language.specs.Surface.{Chain, single, chain, Categories, Identifiers, Alternatives, Query, properties_of}
use Rattle.language.specs.Core.{Selector, Core, nodes}
use Rattle.language.specs.declared.Comparator.{Comparator}
use Rattle.language.specs.declared.SurfaceComparator.{SurfaceComparator}

-- "strict OR equal", in that order.
abbrev pub strict_or_equal : (Comparator → Core) → Comparator → Core
strict_or_equal f d = Core.disjunction (f d) (f Comparator.Equal)

-- A comparison as written, by comparisons with the core's four: "greater or equal: strict OR equal".
unfoldable pub compared : (Comparator → Core) → SurfaceComparator → Core
compared f c = cond (or_equal c) (strict_or_equal f (strictly c)) (f (strictly c))

abbrev pub article_stands : Bytes → SurfaceComparator → Core
article_stands x c = compared (λ d. Core.select (Selector.article d x)) c

-- In a namespace, and as said.
abbrev pub within : Bytes → Core → Core
within n q = Core.conjunction (Core.select (Selector.namespace n)) q

-- 5.3.1, one reference. A bare name with no comparator is in main.
unfoldable pub elaborate_reference : SurfaceComparator → Reference → Core
elaborate_reference c (bare x) = cond (is_equal c) (within [] (article_stands x c)) (article_stands x c)
elaborate_reference c (qualified n x) = cond (in_any_namespace c) (article_stands x c) (within n (article_stands x c))

-- 5.3.1.
unfoldable pub elaborate_identifiers : Identifiers → Core
elaborate_identifiers (Identifiers.namespace n) = Core.select (Selector.namespace n)
elaborate_identifiers (Identifiers.reference c r) = elaborate_reference c r
elaborate_identifiers (Identifiers.either a b) = Core.disjunction (elaborate_identifiers a) (elaborate_identifiers b)

-- 5.3.2.
unfoldable pub elaborate_categories : Categories → Core
elaborate_categories (Categories.one x) = Core.select (Selector.category x)
elaborate_categories (Categories.either a b) = Core.disjunction (elaborate_categories a) (elaborate_categories b)

-- 5.3.3: `val` is read_constant.
unfoldable pub elaborate_constant : Bytes → SurfaceComparator → Constant → Core
elaborate_constant x c v = compared (λ d. Core.select (Selector.value x d v)) c

abbrev pub subquery_on : Bytes → Core → Core
subquery_on x q = Core.select (Selector.subquery x q)

-- On a page property "one link node with any of the six comparators", its reference's names composed. On the other kinds 5.3.3.
unfoldable pub elaborate_value : Bytes → SurfaceComparator → Bytes → Kind → Option Core
elaborate_value x c v Kind.Page =
    cond (is_reference (reference v)) (Some (Core.select (Selector.link x c (composed_reference (reference v))))) None
elaborate_value x c v (Kind.Scalar k) = map_option (elaborate_constant x c) (read_constant (Kind.Scalar k) v)
elaborate_value x c v Kind.String = map_option (elaborate_constant x c) (read_constant Kind.String v)

-- A query inside a page property, undefined on the other kinds.
unfoldable pub inside : Bytes → Option Kind → Option Core → Option Core
inside x None q = None
inside x (Some Kind.Page) q = map_option (subquery_on x) q
inside x (Some (Kind.Scalar k)) q = None
inside x (Some Kind.String) q = None

unfoldable pub joined : (Core → Core → Core) → Option Core → Option Core → Option Core
joined k a b = a >>= λ c. b >>= λ d. Some (k c d)

-- "A chain `a.p` is a subquery on `a` over `p` with the same alternatives": f elaborates those at the last name.
unfoldable pub along : Typing → Chain → (Bytes → Option Core) → Option Core
along Γ (single x) f = f x
along Γ (chain x p) f = inside x (Γ x) (along Γ p f)

-- 5.3.4.
unfoldable mutual
  pub elaborate_in : Alternatives → Typing → Bytes → Option Core
  elaborate_in Alternatives.existence Γ x = Some (Core.select (Selector.existence x))
  elaborate_in (Alternatives.value c v) Γ x = Γ x >>= elaborate_value x c v
  elaborate_in (Alternatives.subquery q) Γ x = inside x (Γ x) (elaborate q Γ)
  elaborate_in (Alternatives.either a b) Γ x = joined Core.disjunction (elaborate_in a Γ x) (elaborate_in b Γ x)

  pub elaborate : Query → Typing → Option Core
  elaborate (Query.category c) Γ = Some (elaborate_categories c)
  elaborate (Query.identifier i) Γ = Some (elaborate_identifiers i)
  elaborate (Query.property p a) Γ = along Γ p (λ x. elaborate_in a Γ x)
  elaborate (Query.disjunction a b) Γ = joined Core.disjunction (elaborate a Γ) (elaborate b Γ)
  elaborate (Query.conjunction a b) Γ = joined Core.conjunction (elaborate a Γ) (elaborate b Γ)

-- 17: "a property not declared"
abbrev pub is_undeclared : Typing → Bytes → Bool
is_undeclared Γ x = found (Γ x) (λ k. false) true

-- The core query of a surface query, or the lowest of 17 to 19. Where every property is declared, only a piece unfit for its
-- kind, a subquery on or a chain through a non-page property leave a query without one (18).
unfoldable pub fit : Typing → Query → Answer Core
fit Γ q =
    cond (any (is_undeclared Γ) (properties_of q)) (refused 17)
    (found (elaborate q Γ) (λ c. cond (ltb 256 (nodes c)) (refused 19) (accepted c)) (refused 18))
