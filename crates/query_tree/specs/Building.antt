-- The query that nodes build, each with what stands before it.
use Rattle.std.specs.Prelude.{ℕ, List, [], ◌∷◌, eqb, length, Option, Some, None}
use Rattle.text.specs.Bytes.{Bytes}
use Rattle.language.specs.Answer.{◌>>=◌, only_if}
use Rattle.language.specs.Surface.{single, chain, Categories, Identifiers, Alternatives, Query}
use Rattle.query_tree.specs.Nodes.{Node, tree_categories, tree_identifiers, tree_in, tree}
use Rattle.query_tree.specs.Pass.{on_one, on_two}

-- Queries, and alternatives that wait for their property.
pub data Part : Type 0 where
  query : Query → Part
  alternatives : Alternatives → Part

-- Two of one shape, where n is how many nodes the second has.
abbrev pub sized : ℕ → List Node → Part → Option Part
sized n l p = only_if (eqb n (length l)) (Some p)

unfoldable pub bar_categories : ℕ → Categories → Part → Option Part
bar_categories n a (Part.query (Query.category b)) = sized n (tree_categories b) (Part.query (Query.category (Categories.either a b)))
bar_categories n a (Part.query (Query.identifier b)) = None
bar_categories n a (Part.query (Query.property p b)) = None
bar_categories n a (Part.query (Query.disjunction b c)) = None
bar_categories n a (Part.query (Query.conjunction b c)) = None
bar_categories n a (Part.alternatives b) = None

unfoldable pub bar_identifiers : ℕ → Identifiers → Part → Option Part
bar_identifiers n a (Part.query (Query.category b)) = None
bar_identifiers n a (Part.query (Query.identifier b)) = sized n (tree_identifiers b) (Part.query (Query.identifier (Identifiers.either a b)))
bar_identifiers n a (Part.query (Query.property p b)) = None
bar_identifiers n a (Part.query (Query.disjunction b c)) = None
bar_identifiers n a (Part.query (Query.conjunction b c)) = None
bar_identifiers n a (Part.alternatives b) = None

unfoldable pub bar_alternatives : ℕ → Alternatives → Part → Option Part
bar_alternatives n a (Part.query (Query.category b)) = None
bar_alternatives n a (Part.query (Query.identifier b)) = None
bar_alternatives n a (Part.query (Query.property p b)) = None
bar_alternatives n a (Part.query (Query.disjunction b c)) = None
bar_alternatives n a (Part.query (Query.conjunction b c)) = None
bar_alternatives n a (Part.alternatives b) = sized n (tree_in b) (Part.alternatives (Alternatives.either a b))

unfoldable pub bar_parts : ℕ → Part → Part → Option Part
bar_parts n (Part.query (Query.category a)) r = bar_categories n a r
bar_parts n (Part.query (Query.identifier a)) r = bar_identifiers n a r
bar_parts n (Part.query (Query.property p a)) r = None
bar_parts n (Part.query (Query.disjunction a b)) r = None
bar_parts n (Part.query (Query.conjunction a b)) r = None
bar_parts n (Part.alternatives a) r = bar_alternatives n a r

-- Two queries joined by a connective.
unfoldable pub join_parts : (Query → Query → Query) → ℕ → Part → Part → Option Part
join_parts f n (Part.query a) (Part.query b) = sized n (tree b) (Part.query (f a b))
join_parts f n (Part.query a) (Part.alternatives b) = None
join_parts f n (Part.alternatives a) (Part.query b) = None
join_parts f n (Part.alternatives a) (Part.alternatives b) = None

unfoldable pub subquery_part : Part → Option Part
subquery_part (Part.query q) = Some (Part.alternatives (Alternatives.subquery q))
subquery_part (Part.alternatives a) = None

unfoldable pub property_part : Bytes → Part → Option Part
property_part x (Part.query q) = None
property_part x (Part.alternatives a) = Some (Part.query (Query.property (single x) a))

unfoldable pub link_part : Bytes → Part → Option Part
link_part x (Part.query (Query.category c)) = None
link_part x (Part.query (Query.identifier i)) = None
link_part x (Part.query (Query.property p a)) = Some (Part.query (Query.property (chain x p) a))
link_part x (Part.query (Query.disjunction a b)) = None
link_part x (Part.query (Query.conjunction a b)) = None
link_part x (Part.alternatives a) = None

abbrev pub step : Node → List Part → Option (List Part)
step (Node.and n) st = on_two (join_parts Query.conjunction n) st
step (Node.or n) st = on_two (join_parts Query.disjunction n) st
step (Node.bar n) st = on_two (bar_parts n) st
step (Node.category x) st = Some (Part.query (Query.category (Categories.one x)) ∷ st)
step (Node.namespace n) st = Some (Part.query (Query.identifier (Identifiers.namespace n)) ∷ st)
step (Node.reference c r) st = Some (Part.query (Query.identifier (Identifiers.reference c r)) ∷ st)
step Node.existence st = Some (Part.alternatives Alternatives.existence ∷ st)
step (Node.value c v) st = Some (Part.alternatives (Alternatives.value c v) ∷ st)
step Node.subquery st = on_one subquery_part st
step (Node.property x) st = on_one (property_part x) st
step (Node.link x) st = on_one (link_part x) st

unfoldable pub run : List Node → Option (List Part) → Option (List Part)
run [] o = o
run (x ∷ l) o = run l (o >>= step x)

abbrev pub only_query : List Part → Option Query
only_query [] = None
only_query (Part.query q ∷ []) = Some q
only_query (Part.alternatives a ∷ []) = None
only_query (b ∷ a ∷ st) = None

unfoldable pub built : List Node → Option Query
built l = run l (Some []) >>= only_query
