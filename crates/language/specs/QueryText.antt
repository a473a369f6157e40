-- The query text: bytes to a surface query, or the lowest of 12 to 16. Document 01, "The query text" and its table.
use Rattle.std.specs.Prelude.{ℕ, suc, max, Bool, false, cond, not, ◌&&◌, ◌||◌, List, [], ◌∷◌, ltb, length}
use Rattle.text.specs.Bytes.{Bytes, bytes, same, any}
use Rattle.names.specs.Names.{is_name, is_property_name, is_namespace}
use Rattle.values.specs.Names.{Reference, bare, qualified, reference, is_reference, is_value}
use Rattle.language.specs.Answer.{Answer, refused, Check, ◌if◌, judge, found}
use Rattle.language.specs.Comparators.{is_equal}
use Rattle.language.specs.Surface.{Chain, single, chain, Categories, Identifiers, Alternatives, Query, composed_query}
use Rattle.language.specs.RawQuery.{Piece, RawAlternatives, RawQuery, read_whole}

-- "Without such a `::`, if the first piece has no comparator and the trimmed text before its first colon is `Category`"
abbrev pub is_plain : Piece → Bool
is_plain p = is_equal p.comparator

abbrev pub is_category_of : Reference → Bool
is_category_of (bare x) = false
is_category_of (qualified n x) = same n (bytes "Category")

abbrev pub is_category : Piece → Bool
is_category p = is_plain p && is_category_of (reference p.text)

-- What stands behind the first colon, trimmed.
abbrev pub article_of : Reference → Bytes
article_of (bare x) = x
article_of (qualified n x) = x

-- "Otherwise each piece is `namespace:+` with no comparator, or a reference."
abbrev pub is_plus_of : Reference → Bool
is_plus_of (bare x) = false
is_plus_of (qualified n x) = same x (bytes "+")

abbrev pub is_namespace_piece : Piece → Bool
is_namespace_piece p = is_plain p && is_plus_of (reference p.text)

abbrev pub namespace_of : Reference → Bytes
namespace_of (bare x) = []
namespace_of (qualified n x) = n

-- "A property piece that is exactly `+` asks for existence."
abbrev pub is_existence : Piece → Bool
is_existence p = is_plain p && same p.text (bytes "+")

-- 14: "depth or chain over 8", groups and subqueries counted alike.
unfoldable pub names_in : Chain → ℕ
names_in (single x) = 1
names_in (chain x p) = suc (names_in p)

unfoldable mutual
  pub depth_in : RawAlternatives → ℕ
  depth_in (RawAlternatives.piece p) = 0
  depth_in (RawAlternatives.subquery q) = suc (depth q)
  depth_in (RawAlternatives.either a b) = max (depth_in a) (depth_in b)

  pub depth : RawQuery → ℕ
  depth (RawQuery.pieces p l) = 0
  depth (RawQuery.property c a) = depth_in a
  depth (RawQuery.group q) = suc (depth q)
  depth (RawQuery.disjunction a b) = max (depth a) (depth b)
  depth (RawQuery.conjunction a b) = max (depth a) (depth b)

unfoldable mutual
  pub longest_in : RawAlternatives → ℕ
  longest_in (RawAlternatives.piece p) = 0
  longest_in (RawAlternatives.subquery q) = longest q
  longest_in (RawAlternatives.either a b) = max (longest_in a) (longest_in b)

  -- The length of the longest chain.
  pub longest : RawQuery → ℕ
  longest (RawQuery.pieces p l) = 0
  longest (RawQuery.property c a) = max (names_in c) (longest_in a)
  longest (RawQuery.group q) = longest q
  longest (RawQuery.disjunction a b) = max (longest a) (longest b)
  longest (RawQuery.conjunction a b) = max (longest a) (longest b)

-- 15: "a name or reference outside property pieces breaks its rule, or a comparator on a category"
unfoldable pub breaks_names : Chain → Bool
breaks_names (single x) = not (is_property_name x)
breaks_names (chain x p) = not (is_property_name x) || breaks_names p

abbrev pub breaks_category : Piece → Bool
breaks_category p = not (is_plain p && is_name p.text)

abbrev pub breaks_reference : Piece → Bool
breaks_reference p =
    cond (is_namespace_piece p) (not (is_namespace (namespace_of (reference p.text)))) (not (is_reference (reference p.text)))

abbrev pub breaks_pieces : Piece → List Piece → Bool
breaks_pieces p l =
    cond (is_category p) (not (is_name (article_of (reference p.text))) || any breaks_category l)
    (any breaks_reference (p ∷ l))

unfoldable mutual
  pub breaks_in : RawAlternatives → Bool
  breaks_in (RawAlternatives.piece p) = false
  breaks_in (RawAlternatives.subquery q) = breaks q
  breaks_in (RawAlternatives.either a b) = breaks_in a || breaks_in b

  pub breaks : RawQuery → Bool
  breaks (RawQuery.pieces p l) = breaks_pieces p l
  breaks (RawQuery.property c a) = breaks_names c || breaks_in a
  breaks (RawQuery.group q) = breaks q
  breaks (RawQuery.disjunction a b) = breaks a || breaks b
  breaks (RawQuery.conjunction a b) = breaks a || breaks b

-- 16: "a property piece, comparator off, breaks the value rule"
unfoldable mutual
  pub breaks_value_in : RawAlternatives → Bool
  breaks_value_in (RawAlternatives.piece p) = not (is_value p.text)
  breaks_value_in (RawAlternatives.subquery q) = breaks_value q
  breaks_value_in (RawAlternatives.either a b) = breaks_value_in a || breaks_value_in b

  pub breaks_value : RawQuery → Bool
  breaks_value (RawQuery.pieces p l) = false
  breaks_value (RawQuery.property c a) = breaks_value_in a
  breaks_value (RawQuery.group q) = breaks_value q
  breaks_value (RawQuery.disjunction a b) = breaks_value a || breaks_value b
  breaks_value (RawQuery.conjunction a b) = breaks_value a || breaks_value b

-- The surface query of what was read.
unfoldable pub categories_from : Categories → List Piece → Categories
categories_from c [] = c
categories_from c (p ∷ l) = categories_from (Categories.either c (Categories.one p.text)) l

abbrev pub identifier_of : Piece → Identifiers
identifier_of p =
    cond (is_namespace_piece p) (Identifiers.namespace (namespace_of (reference p.text)))
    (Identifiers.reference p.comparator (reference p.text))

unfoldable pub identifiers_from : Identifiers → List Piece → Identifiers
identifiers_from i [] = i
identifiers_from i (p ∷ l) = identifiers_from (Identifiers.either i (identifier_of p)) l

abbrev pub pieces_query : Piece → List Piece → Query
pieces_query p l =
    cond (is_category p) (Query.category (categories_from (Categories.one (article_of (reference p.text))) l))
    (Query.identifier (identifiers_from (identifier_of p) l))

unfoldable mutual
  pub surface_in : RawAlternatives → Alternatives
  surface_in (RawAlternatives.piece p) = cond (is_existence p) Alternatives.existence (Alternatives.value p.comparator p.text)
  surface_in (RawAlternatives.subquery q) = Alternatives.subquery (surface q)
  surface_in (RawAlternatives.either a b) = Alternatives.either (surface_in a) (surface_in b)

  pub surface : RawQuery → Query
  surface (RawQuery.pieces p l) = pieces_query p l
  surface (RawQuery.property c a) = Query.property c (surface_in a)
  surface (RawQuery.group q) = surface q
  surface (RawQuery.disjunction a b) = Query.disjunction (surface a) (surface b)
  surface (RawQuery.conjunction a b) = Query.conjunction (surface a) (surface b)

abbrev pub checks : RawQuery → List Check
checks q = 14 if ltb 8 (max (depth q) (longest q)) ∷ 15 if breaks q ∷ 16 if breaks_value q ∷ []

-- The surface query of a text, its names composed, or the lowest of 12 to 16; 15 goes by names as typed.
unfoldable pub read_text : Bytes → Answer Query
read_text s =
    cond (ltb 1024 (length s)) (refused 12)
    (found (read_whole s) (λ q. judge (checks q) (composed_query (surface q))) (refused 13))
