-- A core query as postfix nodes, and the stack machine that reads it back: by it a held query says what it holds.
use Rattle.std.specs.Prelude.{List, [], ◌∷◌, ◌++◌, Option, Some, None}
use Rattle.text.specs.Bytes.{Bytes}
use Rattle.values.specs.Names.{Reference}
use Rattle.values.specs.Values.{Constant}
use Rattle.language.specs.Answer.{◌>>=◌}
use Rattle.language.specs.Core.{Selector, Core}
use Rattle.language.specs.declared.Comparator.{Comparator}
use Rattle.language.specs.declared.SurfaceComparator.{SurfaceComparator}

-- A node without what stands below it.
pub data Node : Type 0 where
  conjunction : Node
  disjunction : Node
  category : Bytes → Node
  namespace : Bytes → Node
  existence : Bytes → Node
  subquery : Bytes → Node
  article : Comparator → Bytes → Node
  value : Bytes → Comparator → Constant → Node
  link : Bytes → SurfaceComparator → Reference → Node

unfoldable mutual
  pub post_in : Selector → List Node
  post_in (Selector.category x) = Node.category x ∷ []
  post_in (Selector.namespace x) = Node.namespace x ∷ []
  post_in (Selector.existence x) = Node.existence x ∷ []
  post_in (Selector.subquery x q) = post q ++ (Node.subquery x ∷ [])
  post_in (Selector.article c x) = Node.article c x ∷ []
  post_in (Selector.value x c v) = Node.value x c v ∷ []
  post_in (Selector.link x c r) = Node.link x c r ∷ []

  pub post : Core → List Node
  post (Core.select s) = post_in s
  post (Core.disjunction a b) = post a ++ post b ++ (Node.disjunction ∷ [])
  post (Core.conjunction a b) = post a ++ post b ++ (Node.conjunction ∷ [])

-- The queries on the stack, the last one first, after a node.
unfoldable pub stepped : Node → List Core → Option (List Core)
stepped Node.conjunction [] = None
stepped Node.conjunction (b ∷ []) = None
stepped Node.conjunction (b ∷ a ∷ st) = Some (Core.conjunction a b ∷ st)
stepped Node.disjunction [] = None
stepped Node.disjunction (b ∷ []) = None
stepped Node.disjunction (b ∷ a ∷ st) = Some (Core.disjunction a b ∷ st)
stepped (Node.category x) st = Some (Core.select (Selector.category x) ∷ st)
stepped (Node.namespace x) st = Some (Core.select (Selector.namespace x) ∷ st)
stepped (Node.existence x) st = Some (Core.select (Selector.existence x) ∷ st)
stepped (Node.subquery x) [] = None
stepped (Node.subquery x) (a ∷ st) = Some (Core.select (Selector.subquery x a) ∷ st)
stepped (Node.article c x) st = Some (Core.select (Selector.article c x) ∷ st)
stepped (Node.value x c v) st = Some (Core.select (Selector.value x c v) ∷ st)
stepped (Node.link x c r) st = Some (Core.select (Selector.link x c r) ∷ st)

unfoldable pub runs : List Node → List Core → Option (List Core)
runs [] st = Some st
runs (n ∷ l) st = stepped n st >>= runs l

-- The one query that is left.
abbrev pub only : List Core → Option Core
only [] = None
only (q ∷ []) = Some q
only (q ∷ r ∷ st) = None

-- The core query that nodes are the postfix code of.
unfoldable pub read_back : List Node → Option Core
read_back l = runs l [] >>= only
