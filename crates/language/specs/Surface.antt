-- Surface queries: the abstract syntax of thesis 5.2.2. Groups and blanks are gone; equal connectives and the alternatives
-- of a bracket are grouped from the left.
use Rattle.std.specs.Prelude.{List, [], ◌∷◌, ◌++◌}
use Rattle.text.specs.Bytes.{Bytes}
use Rattle.names.specs.Names.{composed_name}
use Rattle.values.specs.Names.{Reference, composed_reference}
use Rattle.language.specs.declared.SurfaceComparator.{SurfaceComparator}

-- SProp: a property name, or a chain `x.p`.
pub data Chain : Type 0 where
  single : Bytes → Chain
  chain : Bytes → Chain → Chain

-- SCSel: category names parted by `||`.
pub data Categories : Type 0 where
  one : Bytes → Categories
  either : Categories → Categories → Categories

-- SISel: `namespace:+` and references, parted by `||`.
pub data Identifiers : Type 0 where
  namespace : Bytes → Identifiers
  reference : SurfaceComparator → Reference → Identifiers
  either : Identifiers → Identifiers → Identifiers

mutual
  -- SPSel: `+`, values and subqueries, parted by `||`.
  pub data Alternatives : Type 0 where
    existence : Alternatives
    value : SurfaceComparator → Bytes → Alternatives
    subquery : Query → Alternatives
    either : Alternatives → Alternatives → Alternatives

  -- SQuery.
  pub data Query : Type 0 where
    category : Categories → Query
    identifier : Identifiers → Query
    property : Chain → Alternatives → Query
    disjunction : Query → Query → Query
    conjunction : Query → Query → Query

-- A query with its names composed (document 02, "Accented names typed two ways"). What a property piece writes stays as typed: whether
-- that is a reference or a string is its property's affair.
unfoldable pub composed_chain : Chain → Chain
composed_chain (single x) = single (composed_name x)
composed_chain (chain x p) = chain (composed_name x) (composed_chain p)

unfoldable pub composed_categories : Categories → Categories
composed_categories (Categories.one x) = Categories.one (composed_name x)
composed_categories (Categories.either a b) = Categories.either (composed_categories a) (composed_categories b)

unfoldable pub composed_identifiers : Identifiers → Identifiers
composed_identifiers (Identifiers.namespace n) = Identifiers.namespace (composed_name n)
composed_identifiers (Identifiers.reference c r) = Identifiers.reference c (composed_reference r)
composed_identifiers (Identifiers.either a b) = Identifiers.either (composed_identifiers a) (composed_identifiers b)

unfoldable mutual
  pub composed_in : Alternatives → Alternatives
  composed_in Alternatives.existence = Alternatives.existence
  composed_in (Alternatives.value c v) = Alternatives.value c v
  composed_in (Alternatives.subquery q) = Alternatives.subquery (composed_query q)
  composed_in (Alternatives.either a b) = Alternatives.either (composed_in a) (composed_in b)

  pub composed_query : Query → Query
  composed_query (Query.category c) = Query.category (composed_categories c)
  composed_query (Query.identifier i) = Query.identifier (composed_identifiers i)
  composed_query (Query.property p a) = Query.property (composed_chain p) (composed_in a)
  composed_query (Query.disjunction a b) = Query.disjunction (composed_query a) (composed_query b)
  composed_query (Query.conjunction a b) = Query.conjunction (composed_query a) (composed_query b)

-- The property names of a query, in order of appearance.
unfoldable pub names_of : Chain → List Bytes
names_of (single x) = x ∷ []
names_of (chain x p) = x ∷ names_of p

unfoldable mutual
  pub properties_in : Alternatives → List Bytes
  properties_in Alternatives.existence = []
  properties_in (Alternatives.value c v) = []
  properties_in (Alternatives.subquery q) = properties_of q
  properties_in (Alternatives.either a b) = properties_in a ++ properties_in b

  pub properties_of : Query → List Bytes
  properties_of (Query.category c) = []
  properties_of (Query.identifier i) = []
  properties_of (Query.property p a) = names_of p ++ properties_in a
  properties_of (Query.disjunction a b) = properties_of a ++ properties_of b
  properties_of (Query.conjunction a b) = properties_of a ++ properties_of b
