-- Working definitions: what the readers do to the tree and to what was seen, as effects that are added up.
use Rattle.std.specs.Prelude.{ℕ, ◌≡◌, Bool, false, ◌||◌, List, [], ◌∷◌, ◌++◌, length, Option, Some, None}
use Rattle.text.specs.Bytes.{Bytes}
use Rattle.query_text_pieces.specs.Places.{from}
use Rattle.query_tree.specs.Nodes.{Node, composed_nodes}
use Rattle.query_tree.specs.declared.TreeNode.{TreeNode}
use Rattle.query_tree_write.specs.Laying.{Adds}
use Rattle.query_text_heads.specs.declared.Seen.{Seen}
use Rattle.query_text_heads.specs.declared.Connective.{Connective}

-- The nodes that are added, and whether a condition of 14, 15 or 16 is met.
pub record Effect : Type 0 where
  pub nodes : List Node
  pub deep : Bool
  pub name : Bool
  pub value : Bool

-- A node with conditions; a node alone; conditions alone.
unfoldable pub noded : Node → Bool → Bool → Bool → Effect
noded x d n v = record { nodes = x ∷ []; deep = d; name = n; value = v }

unfoldable pub one : Node → Effect
one x = record { nodes = x ∷ []; deep = false; name = false; value = false }

unfoldable pub met : Bool → Bool → Bool → Effect
met d n v = record { nodes = []; deep = d; name = n; value = v }

-- One effect after the other.
infixl 60 ◌then◌
unfoldable pub ◌then◌ : Effect → Effect → Effect
e then f = record { nodes = e.nodes ++ f.nodes; deep = e.deep || f.deep; name = e.name || f.name; value = e.value || f.value }

-- What was seen, with conditions.
unfoldable pub flagged : Seen → Bool → Bool → Bool → Seen
flagged n d m v = record { place = n.place; deep = n.deep || d; name = n.name || m; value = n.value || v }

-- The tree and what was seen before, an effect, the tree and what was seen after it. Nodes are put with their names composed.
pub record After (t : Bytes) (n : Seen) (e : Effect) (t' : Bytes) (n' : Seen) : Type 0 where
  pub adds : Adds (composed_nodes e.nodes) t n.place t' n'.place
  pub deep : n'.deep ≡ (n.deep || e.deep)
  pub name : n'.name ≡ (n.name || e.name)
  pub value : n'.value ≡ (n.value || e.value)

-- The node of a connective, by how many nodes its second side has.
abbrev pub join_node : Connective → ℕ → TreeNode
join_node Connective.And n = TreeNode.And n
join_node Connective.Or n = TreeNode.Or n
join_node Connective.Bar n = TreeNode.Bar n

abbrev pub connective : Connective → ℕ → Node
connective Connective.And n = Node.and n
connective Connective.Or n = Node.or n
connective Connective.Bar n = Node.bar n

-- What a reader answers of what o reads: e tells the effect of what was read.
unfoldable pub ReadsPart : {A : Type 0} → Bytes → (A → Effect) → Bytes → Seen → Option (A × Bytes) → Option (ℕ × Seen) → Bytes → Type 0
ReadsPart s e t n o None t' = (o ≡ None) × (length t' ≡ length t)
ReadsPart {A} s e t n o (Some x) t' = (a : A) × (o ≡ Some (a, from s x.0)) × After t n (e a) t' x.1

-- The same behind something whose effect is there already: f reads on from it.
unfoldable pub ReadsOn : {A : Type 0} → Bytes → (A → Effect) → Bytes → Seen → (A → Bytes → Option (A × Bytes)) → ℕ → Option (ℕ × Seen) → Bytes → Type 0
ReadsOn {A} s e t' n' f at r t'' = (a : A) (t : Bytes) (n : Seen) → After t n (e a) t' n' → ReadsPart s e t n (f a (from s at)) r t''
