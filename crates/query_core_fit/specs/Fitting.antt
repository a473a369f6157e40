-- Working definitions: what fitting a part of a tree answers. l are the nodes of the tree, Γ the kinds of the register's properties; names
-- and pieces lie in s.
use Rattle.std.specs.Prelude.{ℕ, suc, ◌+◌, ◌≡◌, Bool, true, false, List, [], ◌∷◌, ◌++◌, length, Option, Some, None}
use Rattle.std.specs.Option.{is_none}
use Rattle.text.specs.Bytes.{Bytes}
use Rattle.text.specs.Parts.{part_of}
use Rattle.text.specs.declared.Span.{Span}
use Rattle.values.specs.declared.Kind.{Kind}
use Rattle.language.specs.Answer.{◌>>=◌}
use Rattle.language.specs.Register.{Typing}
use Rattle.language.specs.Surface.{Chain, Alternatives, Query}
use Rattle.language.specs.declared.SurfaceComparator.{SurfaceComparator}
use Rattle.language.specs.Core.{Core}
use Rattle.language.specs.Core as Core
use Rattle.language.specs.Elaboration.{elaborate_reference, elaborate_value, inside, joined, along, elaborate_in, elaborate}
use Rattle.query_core.specs.declared.Place.{Place}
use Rattle.query_core.specs.Postfix as Postfix
use Rattle.query_core_emit.specs.Emission.{Adds, Emits}
use Rattle.query_tree.specs.Nodes.{Node, tree_chain, tree_in, tree}
use Rattle.query_tree.specs.declared.TreeNode.{TreeNode}
use Rattle.query_core_fit.specs.declared.Step.{Step}

-- What a node asks for.
abbrev pub step_of : TreeNode → Step
step_of (TreeNode.And n) = Step.Two n false
step_of (TreeNode.Or n) = Step.Two n true
step_of (TreeNode.Bar n) = Step.Two n true
step_of (TreeNode.Category p) = Step.Leaf
step_of (TreeNode.Namespace p) = Step.Leaf
step_of (TreeNode.Bare c p) = Step.Leaf
step_of (TreeNode.Qualified c p q) = Step.Leaf
step_of TreeNode.Existence = Step.Leaf
step_of (TreeNode.Value c p) = Step.Leaf
step_of TreeNode.Subquery = Step.Subquery
step_of (TreeNode.Property p) = Step.Property p
step_of (TreeNode.Link p) = Step.Link p

-- 17, of one node.
abbrev pub node_undeclared : Typing → Node → Bool
node_undeclared Γ (Node.and n) = false
node_undeclared Γ (Node.or n) = false
node_undeclared Γ (Node.bar n) = false
node_undeclared Γ (Node.category x) = false
node_undeclared Γ (Node.namespace n) = false
node_undeclared Γ (Node.reference c r) = false
node_undeclared Γ Node.existence = false
node_undeclared Γ (Node.value c v) = false
node_undeclared Γ Node.subquery = false
node_undeclared Γ (Node.property x) = is_none (Γ x)
node_undeclared Γ (Node.link x) = is_none (Γ x)

-- OR or AND of two core queries.
abbrev pub join_core : Bool → Core → Core → Core
join_core true = Core.disjunction
join_core false = Core.conjunction

-- The nodes before node i end with those of a part: t tells the nodes of a part, e its core query.
pub record Fits {A : Type 0} (t : A → List Node) (e : A → Option Core) (l : List Node) (i : ℕ) (h : Bytes) (p : Place) (r : Option Place) (h' : Bytes) : Type 0 where
  pub is : (k m : List Node) (a : A) → l ≡ k ++ (t a ++ m) → i ≡ length k + length (t a) → Emits (e a) h p r h'

-- They end with those of two parts, n in the second.
pub record FitsTwo {A : Type 0} (t : A → List Node) (e : A → Option Core) (or : Bool) (l : List Node) (n i : ℕ) (h : Bytes) (p : Place) (r : Option Place) (h' : Bytes) : Type 0 where
  pub is : (k m : List Node) (a b : A) → l ≡ k ++ (t a ++ (t b ++ m)) → n ≡ length (t b) → i ≡ length k + (length (t a) + length (t b)) → Emits (joined (join_core or) (e a) (e b)) h p r h'

-- A subquery's node is put where the property's kind is page.
abbrev pub Wraps : Bytes → Option Kind → Bytes → Place → Option Place → Bytes → Type 0
Wraps x k h p None h' = (o : Option Core) → inside x k o ≡ None
Wraps x k h p (Some p') h' = (k ≡ Some Kind.Page) × Adds (Postfix.subquery x ∷ []) h p h' p'

-- A piece under the property x, by its kind.
abbrev pub piece_core : Bytes → SurfaceComparator → Bytes → Option Kind → Option Core
piece_core x c v k = k >>= elaborate_value x c v

-- A node alone that is a query, and one that is an alternative of the property x with a kind; other nodes ask for nothing here.
abbrev pub LeafAt : Node → Bytes → Place → Option Place → Bytes → Type 0
LeafAt (Node.and n) h p r h' = Unit {0}
LeafAt (Node.or n) h p r h' = Unit {0}
LeafAt (Node.bar n) h p r h' = Unit {0}
LeafAt (Node.category x) h p r h' = Emits (Some (Core.select (Core.category x))) h p r h'
LeafAt (Node.namespace n) h p r h' = Emits (Some (Core.select (Core.namespace n))) h p r h'
LeafAt (Node.reference c f) h p r h' = Emits (Some (elaborate_reference c f)) h p r h'
LeafAt Node.existence h p r h' = Unit {0}
LeafAt (Node.value c v) h p r h' = Unit {0}
LeafAt Node.subquery h p r h' = Unit {0}
LeafAt (Node.property x) h p r h' = Unit {0}
LeafAt (Node.link x) h p r h' = Unit {0}

abbrev pub LeafIn : Bytes → Option Kind → Node → Bytes → Place → Option Place → Bytes → Type 0
LeafIn x k (Node.and n) h p r h' = Unit {0}
LeafIn x k (Node.or n) h p r h' = Unit {0}
LeafIn x k (Node.bar n) h p r h' = Unit {0}
LeafIn x k (Node.category y) h p r h' = Unit {0}
LeafIn x k (Node.namespace n) h p r h' = Unit {0}
LeafIn x k (Node.reference c f) h p r h' = Unit {0}
LeafIn x k Node.existence h p r h' = Emits (Some (Core.select (Core.existence x))) h p r h'
LeafIn x k (Node.value c v) h p r h' = Emits (piece_core x c v k) h p r h'
LeafIn x k Node.subquery h p r h' = Unit {0}
LeafIn x k (Node.property y) h p r h' = Unit {0}
LeafIn x k (Node.link y) h p r h' = Unit {0}

module _ (Γ : Typing) where
  abbrev pub core_of_query : Query → Option Core
  core_of_query q = elaborate q Γ

  abbrev pub in_core : Bytes → Alternatives → Option Core
  in_core x a = elaborate_in a Γ x

  -- A chain and its alternatives.
  abbrev pub chain_tree : Chain × Alternatives → List Node
  chain_tree c = tree_chain c.0 (tree_in c.1)

  abbrev pub chain_core : Chain × Alternatives → Option Core
  chain_core c = along Γ c.0 (λ x. elaborate_in c.1 Γ x)

  -- A part ends with a node, the node numbered i, by what the node is.
  module _ (l : List Node) where
    abbrev pub AtNode : Node → ℕ → Bytes → Place → Option Place → Bytes → Type 0
    AtNode (Node.and n) i h p r h' = FitsTwo tree core_of_query false l n i h p r h'
    AtNode (Node.or n) i h p r h' = FitsTwo tree core_of_query true l n i h p r h'
    AtNode (Node.bar n) i h p r h' = FitsTwo tree core_of_query true l n i h p r h'
    AtNode (Node.category x) i h p r h' = LeafAt (Node.category x) h p r h'
    AtNode (Node.namespace n) i h p r h' = LeafAt (Node.namespace n) h p r h'
    AtNode (Node.reference c f) i h p r h' = LeafAt (Node.reference c f) h p r h'
    AtNode Node.existence i h p r h' = Unit {0}
    AtNode (Node.value c v) i h p r h' = Unit {0}
    AtNode Node.subquery i h p r h' = Unit {0}
    AtNode (Node.property x) i h p r h' = Fits chain_tree chain_core l (suc i) h p r h'
    AtNode (Node.link x) i h p r h' = Fits chain_tree chain_core l (suc i) h p r h'

    -- alternatives, under the property x
    abbrev pub InNode : Bytes → Node → ℕ → Bytes → Place → Option Place → Bytes → Type 0
    InNode x (Node.and n) i h p r h' = Unit {0}
    InNode x (Node.or n) i h p r h' = Unit {0}
    InNode x (Node.bar n) i h p r h' = FitsTwo tree_in (in_core x) true l n i h p r h'
    InNode x (Node.category y) i h p r h' = Unit {0}
    InNode x (Node.namespace n) i h p r h' = Unit {0}
    InNode x (Node.reference c f) i h p r h' = Unit {0}
    InNode x Node.existence i h p r h' = LeafIn x (Γ x) Node.existence h p r h'
    InNode x (Node.value c v) i h p r h' = LeafIn x (Γ x) (Node.value c v) h p r h'
    InNode x Node.subquery i h p r h' = Fits tree (λ q. inside x (Γ x) (elaborate q Γ)) l i h p r h'
    InNode x (Node.property y) i h p r h' = Unit {0}
    InNode x (Node.link y) i h p r h' = Unit {0}

    -- a chain
    abbrev pub ChainNode : Node → ℕ → Bytes → Place → Option Place → Bytes → Type 0
    ChainNode (Node.and n) i h p r h' = Unit {0}
    ChainNode (Node.or n) i h p r h' = Unit {0}
    ChainNode (Node.bar n) i h p r h' = Unit {0}
    ChainNode (Node.category y) i h p r h' = Unit {0}
    ChainNode (Node.namespace n) i h p r h' = Unit {0}
    ChainNode (Node.reference c f) i h p r h' = Unit {0}
    ChainNode Node.existence i h p r h' = Unit {0}
    ChainNode (Node.value c v) i h p r h' = Unit {0}
    ChainNode Node.subquery i h p r h' = Unit {0}
    ChainNode (Node.property x) i h p r h' = Fits tree_in (in_core x) l i h p r h'
    ChainNode (Node.link x) i h p r h' = Fits chain_tree (λ c. inside x (Γ x) (chain_core c)) l i h p r h'

-- The nodes before node i end with those of the alternatives of the property whose name lies at x; k is its kind.
unfoldable pub FitsIn : Bytes → Typing → List Node → Span → Option Kind → ℕ → Bytes → Place → Option Place → Bytes → Type 0
FitsIn s Γ l x k i h p r h' = k ≡ Γ (part_of s x) → Fits tree_in (in_core Γ (part_of s x)) l i h p r h'
