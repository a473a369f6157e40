-- A surface query as postfix nodes, each behind what it is made of. Two queries never share a tree: `||` is not OR, a name of a chain
-- is not a subquery's property, `:D1` is not `D1`.
use Rattle.std.specs.Prelude.{ℕ, List, [], ◌∷◌, ◌++◌, map, length}
use Rattle.text.specs.Bytes.{Bytes}
use Rattle.names.specs.Names.{composed_name}
use Rattle.values.specs.Names.{Reference, bare, qualified, composed_reference}
use Rattle.language.specs.Surface.{Chain, single, chain, Categories, Identifiers, Alternatives, Query}
use Rattle.language.specs.declared.SurfaceComparator.{SurfaceComparator}

-- What joins two has how many nodes the second of them takes up. A property names the last of its chain, behind its alternatives; a link
-- puts one name more before the chain.
pub data Node : Type 0 where
  and : ℕ → Node
  or : ℕ → Node
  bar : ℕ → Node
  category : Bytes → Node
  namespace : Bytes → Node
  reference : SurfaceComparator → Reference → Node
  existence : Node
  value : SurfaceComparator → Bytes → Node
  subquery : Node
  property : Bytes → Node
  link : Bytes → Node

-- Two lists of nodes, joined.
abbrev pub join_by : (ℕ → Node) → List Node → List Node → List Node
join_by f k l = k ++ l ++ (f (length l) ∷ [])

unfoldable pub tree_categories : Categories → List Node
tree_categories (Categories.one x) = Node.category x ∷ []
tree_categories (Categories.either a b) = join_by Node.bar (tree_categories a) (tree_categories b)

unfoldable pub tree_identifiers : Identifiers → List Node
tree_identifiers (Identifiers.namespace n) = Node.namespace n ∷ []
tree_identifiers (Identifiers.reference c r) = Node.reference c r ∷ []
tree_identifiers (Identifiers.either a b) = join_by Node.bar (tree_identifiers a) (tree_identifiers b)

unfoldable pub tree_chain : Chain → List Node → List Node
tree_chain (single x) l = l ++ (Node.property x ∷ [])
tree_chain (chain x p) l = tree_chain p l ++ (Node.link x ∷ [])

unfoldable mutual
  pub tree_in : Alternatives → List Node
  tree_in Alternatives.existence = Node.existence ∷ []
  tree_in (Alternatives.value c v) = Node.value c v ∷ []
  tree_in (Alternatives.subquery q) = tree q ++ (Node.subquery ∷ [])
  tree_in (Alternatives.either a b) = join_by Node.bar (tree_in a) (tree_in b)

  pub tree : Query → List Node
  tree (Query.category c) = tree_categories c
  tree (Query.identifier i) = tree_identifiers i
  tree (Query.property p a) = tree_chain p (tree_in a)
  tree (Query.disjunction a b) = join_by Node.or (tree a) (tree b)
  tree (Query.conjunction a b) = join_by Node.and (tree a) (tree b)

-- A node with its names composed; what a property piece writes stays as typed.
unfoldable pub composed_node : Node → Node
composed_node (Node.and n) = Node.and n
composed_node (Node.or n) = Node.or n
composed_node (Node.bar n) = Node.bar n
composed_node (Node.category x) = Node.category (composed_name x)
composed_node (Node.namespace n) = Node.namespace (composed_name n)
composed_node (Node.reference c r) = Node.reference c (composed_reference r)
composed_node Node.existence = Node.existence
composed_node (Node.value c v) = Node.value c v
composed_node Node.subquery = Node.subquery
composed_node (Node.property x) = Node.property (composed_name x)
composed_node (Node.link x) = Node.link (composed_name x)

abbrev pub composed_nodes : List Node → List Node
composed_nodes l = map composed_node l

-- The names and values of nodes, one behind the other: a reference's namespace before its article name.
abbrev pub reference_string : Reference → Bytes
reference_string (bare x) = x
reference_string (qualified n x) = n ++ x

unfoldable pub string_of : Node → Bytes
string_of (Node.and n) = []
string_of (Node.or n) = []
string_of (Node.bar n) = []
string_of (Node.category x) = x
string_of (Node.namespace n) = n
string_of (Node.reference c r) = reference_string r
string_of Node.existence = []
string_of (Node.value c v) = v
string_of Node.subquery = []
string_of (Node.property x) = x
string_of (Node.link x) = x

unfoldable pub strings : List Node → Bytes
strings [] = []
strings (x ∷ l) = string_of x ++ strings l
