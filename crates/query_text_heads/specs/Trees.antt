-- Working definitions: the effects of what is read, by the published definitions.
use Rattle.std.specs.Prelude.{ℕ, ◌+◌, max, Bool, true, false, cond, List, [], ◌∷◌, ◌++◌, ltb, take, drop, Option, Some, None, Result, Ok, Err}
use Rattle.text.specs.Bytes.{Bytes, bytes, all, after}
use Rattle.text.specs.Class.{is_free}
use Rattle.values.specs.Names.{reference}
use Rattle.language.specs.Answer.{◌>>=◌, found, only_if}
use Rattle.language.specs.declared.refusals.Refusal.{Refusal}
use Rattle.language.specs.Surface.{Chain, single, chain}
use Rattle.language.specs.RawQuery.{Piece, RawQuery, RawAlternatives, read_pieces, split_dots, trim_names, read_alternatives, closed_body}
use Rattle.language.specs.QueryText.{names_in, depth, depth_in, longest, longest_in, breaks, breaks_in, breaks_value, breaks_value_in, breaks_names, breaks_category, breaks_reference, is_namespace_piece, namespace_of, surface, surface_in}
use Rattle.query_text_pieces.specs.declared.Placed.{Placed}
use Rattle.query_text_pieces.specs.declared.Read.{Read}
use Rattle.query_tree.specs.Nodes.{Node, tree, tree_in}
use Rattle.query_tree.specs.declared.TreeNode.{TreeNode}
use Rattle.query_text_heads.specs.Effects.{Effect, noded, one, met, ◌then◌}

-- One level or one name more, at most 9.
abbrev pub deeper : ℕ → ℕ
deeper d = cond (ltb d 9) (d + 1) 9

-- What was read at a depth, and the same of alternatives.
unfoldable pub effect : ℕ → RawQuery → Effect
effect d q = record { nodes = tree (surface q); deep = ltb 8 (max (d + depth q) (longest q)); name = breaks q; value = breaks_value q }

unfoldable pub effect_in : ℕ → RawAlternatives → Effect
effect_in d a = record { nodes = tree_in (surface_in a); deep = ltb 8 (max (d + depth_in a) (longest_in a)); name = breaks_in a; value = breaks_value_in a }

-- The nodes of a head: the property, then a link for each name before it. It adds its names to n others.
unfoldable pub chain_nodes : Chain → List Node
chain_nodes (single x) = Node.property x ∷ []
chain_nodes (chain x p) = chain_nodes p ++ (Node.link x ∷ [])

unfoldable pub chain_effect : ℕ → Chain → Effect
chain_effect n c = record { nodes = chain_nodes c; deep = ltb 8 (n + names_in c); name = breaks_names c; value = false }

-- The node of a property piece, which asks for existence or not.
unfoldable pub value_node : Bool → Placed → TreeNode
value_node b p = cond b TreeNode.Existence (TreeNode.Value p.comparator p.text)

-- The node of a piece that is `namespace:+` or a reference.
unfoldable pub node_of_piece : Piece → Node
node_of_piece p = cond (is_namespace_piece p) (Node.namespace (namespace_of (reference p.text))) (Node.reference p.comparator (reference p.text))

-- A piece behind the first of a bracket without `::`, of category names or not.
unfoldable pub piece_effect : Bool → Piece → Effect
piece_effect true p = noded (Node.category p.text) false (breaks_category p) false
piece_effect false p = noded (node_of_piece p) false (breaks_reference p) false

unfoldable pub rest_effect : Bool → List Piece → Effect
rest_effect b [] = met false false false
rest_effect b (p ∷ l) = piece_effect b p then one (Node.bar 1) then rest_effect b l

-- The pieces behind a first one, and `]]`.
unfoldable pub tail_pieces : Bytes → Option (List Piece × Bytes)
tail_pieces s = found (after (bytes "||") s) read_pieces (after (bytes "]]") s >>= λ r. Some ([], r))

-- A property body whose head has k bytes, and its `]]`.
unfoldable pub property_body : Bytes → ℕ → Option (RawQuery × Bytes)
property_body s k = only_if (all is_free (take k s)) (read_alternatives (drop (2 + k) s) >>= λ a. closed_body (trim_names (split_dots (take k s))) a.0 a.1)

-- What a piece outside property bodies is refused by: the name that is neither `namespace:+` nor a reference.
abbrev pub read_refusal : Option Read → Result Unit Refusal
read_refusal (Some (Read.Namespace p)) = Ok tt
read_refusal (Some (Read.Reference c p)) = Ok tt
read_refusal None = Err Refusal.BadName

-- The number of what is refused, 15, or 0.
abbrev pub number_of_read : Option Read → ℕ
number_of_read (Some (Read.Namespace p)) = 0
number_of_read (Some (Read.Reference c p)) = 0
number_of_read None = 15
