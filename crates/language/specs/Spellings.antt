-- Queries that differ in how their names are typed. Document 02, "Accented names typed two ways": "Two names are equal exactly when their
-- composed forms are".
use Rattle.std.specs.Prelude.{◌≡◌, true}
use Rattle.text.specs.Bytes.{Bytes}
use Rattle.names.specs.Names.{is_namespace, Equivalent}
use Rattle.values.specs.Names as Names
use Rattle.values.specs.Names.{Reference}
use Rattle.language.specs.Surface as Surface
use Rattle.language.specs.Surface.{Chain, Categories, Identifiers, Alternatives, Query}
use Rattle.language.specs.declared.SurfaceComparator.{SurfaceComparator}

-- Two spellings of a name, or of no namespace: both keep the rule as typed, and are canonically equivalent (Unicode Standard Annex 15).
pub record TwoSpellings (x y : Bytes) : Type 0 where
  pub first : is_namespace x ≡ true
  pub second : is_namespace y ≡ true
  pub equivalent : Equivalent x y

pub data TwoReferences : Reference → Reference → Type 0 where
  bare : (x y : Bytes) → TwoSpellings x y → TwoReferences (Names.bare x) (Names.bare y)
  qualified : (n m x y : Bytes) → TwoSpellings n m → TwoSpellings x y → TwoReferences (Names.qualified n x) (Names.qualified m y)

pub data TwoChains : Chain → Chain → Type 0 where
  single : (x y : Bytes) → TwoSpellings x y → TwoChains (Surface.single x) (Surface.single y)
  chain : (x y : Bytes) (p q : Chain) → TwoSpellings x y → TwoChains p q → TwoChains (Surface.chain x p) (Surface.chain y q)

pub data TwoCategories : Categories → Categories → Type 0 where
  one : (x y : Bytes) → TwoSpellings x y → TwoCategories (Categories.one x) (Categories.one y)
  either : (a b c d : Categories) → TwoCategories a c → TwoCategories b d → TwoCategories (Categories.either a b) (Categories.either c d)

pub data TwoIdentifiers : Identifiers → Identifiers → Type 0 where
  namespace : (n m : Bytes) → TwoSpellings n m → TwoIdentifiers (Identifiers.namespace n) (Identifiers.namespace m)
  reference : (c : SurfaceComparator) (r s : Reference) → TwoReferences r s → TwoIdentifiers (Identifiers.reference c r) (Identifiers.reference c s)
  either : (a b c d : Identifiers) → TwoIdentifiers a c → TwoIdentifiers b d → TwoIdentifiers (Identifiers.either a b) (Identifiers.either c d)

-- Two queries whose names are spellings of each other. What property pieces write is the same in both: a string there is no name.
mutual
  pub data TwoAlternatives : Alternatives → Alternatives → Type 0 where
    same : (a : Alternatives) → TwoAlternatives a a
    subquery : (q r : Query) → TwoQueries q r → TwoAlternatives (Alternatives.subquery q) (Alternatives.subquery r)
    either : (a b c d : Alternatives) → TwoAlternatives a c → TwoAlternatives b d → TwoAlternatives (Alternatives.either a b) (Alternatives.either c d)

  pub data TwoQueries : Query → Query → Type 0 where
    category : (a b : Categories) → TwoCategories a b → TwoQueries (Query.category a) (Query.category b)
    identifier : (a b : Identifiers) → TwoIdentifiers a b → TwoQueries (Query.identifier a) (Query.identifier b)
    property : (p q : Chain) (a b : Alternatives) → TwoChains p q → TwoAlternatives a b → TwoQueries (Query.property p a) (Query.property q b)
    disjunction : (a b c d : Query) → TwoQueries a c → TwoQueries b d → TwoQueries (Query.disjunction a b) (Query.disjunction c d)
    conjunction : (a b c d : Query) → TwoQueries a c → TwoQueries b d → TwoQueries (Query.conjunction a b) (Query.conjunction c d)
