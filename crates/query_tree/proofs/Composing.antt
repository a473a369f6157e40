-- The tree of a query with its names composed has its nodes' names composed.
use Prim.Native.Nat.{ℕ}
use mathlib.Core.Path.{◌≡◌, refl, sym, ap, ap₂, ◌∙◌}
use mathlib.Core.List.{List, [], ◌∷◌, ◌++◌, map-append}
use lib.ListN.{length, length-map}
use Rattle.language.specs.Surface.{Chain, single, chain, Categories, Identifiers, Alternatives, Query, composed_chain, composed_categories, composed_identifiers, composed_in, composed_query}
use Rattle.query_tree.specs.Nodes.{Node, join_by, tree_categories, tree_identifiers, tree_chain, tree_in, tree, composed_node, composed_nodes}

-- Two lists joined by a node without names.
pub joined_composed : (f : ℕ → Node) → ((n : ℕ) → composed_node (f n) ≡ f n) → (k l : List Node) → composed_nodes (join_by f k l) ≡ join_by f (composed_nodes k) (composed_nodes l)
joined_composed f h k l =
    map-append composed_node (k ++ l) (f (length l) ∷ [])
    ∙ ap₂ (λ (u v : List Node). u ++ v) (map-append composed_node k l) (ap (λ (x : Node). x ∷ []) (h (length l) ∙ ap f (sym (length-map l composed_node))))

-- One node more.
one_composed : (l : List Node) (x : Node) → composed_nodes (l ++ (x ∷ [])) ≡ composed_nodes l ++ (composed_node x ∷ [])
one_composed l x = map-append composed_node l (x ∷ [])

bar_plain : (n : ℕ) → composed_node (Node.bar n) ≡ Node.bar n
unfolding composed_node
bar_plain n = refl

or_plain : (n : ℕ) → composed_node (Node.or n) ≡ Node.or n
unfolding composed_node
or_plain n = refl

and_plain : (n : ℕ) → composed_node (Node.and n) ≡ Node.and n
unfolding composed_node
and_plain n = refl

categories_composed : (c : Categories) → tree_categories (composed_categories c) ≡ composed_nodes (tree_categories c)
unfolding tree_categories composed_categories composed_node
categories_composed (Categories.one x) = refl
categories_composed (Categories.either a b) = ap₂ (join_by Node.bar) (categories_composed a) (categories_composed b) ∙ sym (joined_composed Node.bar bar_plain (tree_categories a) (tree_categories b))

identifiers_composed : (i : Identifiers) → tree_identifiers (composed_identifiers i) ≡ composed_nodes (tree_identifiers i)
unfolding tree_identifiers composed_identifiers composed_node
identifiers_composed (Identifiers.namespace n) = refl
identifiers_composed (Identifiers.reference c r) = refl
identifiers_composed (Identifiers.either a b) =
    ap₂ (join_by Node.bar) (identifiers_composed a) (identifiers_composed b) ∙ sym (joined_composed Node.bar bar_plain (tree_identifiers a) (tree_identifiers b))

chain_composed : (p : Chain) (l : List Node) → tree_chain (composed_chain p) (composed_nodes l) ≡ composed_nodes (tree_chain p l)
unfolding tree_chain composed_chain composed_node
chain_composed (single x) l = sym (one_composed l (Node.property x))
chain_composed (chain x p) l = ap (λ (k : List Node). k ++ (composed_node (Node.link x) ∷ [])) (chain_composed p l) ∙ sym (one_composed (tree_chain p l) (Node.link x))

mutual
  unfolding tree_in tree composed_in composed_query composed_node

  in_composed : (a : Alternatives) → tree_in (composed_in a) ≡ composed_nodes (tree_in a)
  in_composed Alternatives.existence = refl
  in_composed (Alternatives.value c v) = refl
  in_composed (Alternatives.subquery q) = ap (λ (k : List Node). k ++ (Node.subquery ∷ [])) (tree_composed q) ∙ sym (one_composed (tree q) Node.subquery)
  in_composed (Alternatives.either a b) = ap₂ (join_by Node.bar) (in_composed a) (in_composed b) ∙ sym (joined_composed Node.bar bar_plain (tree_in a) (tree_in b))

  pub tree_composed : (q : Query) → tree (composed_query q) ≡ composed_nodes (tree q)
  tree_composed (Query.category c) = categories_composed c
  tree_composed (Query.identifier i) = identifiers_composed i
  tree_composed (Query.property p a) = ap (tree_chain (composed_chain p)) (in_composed a) ∙ chain_composed p (tree_in a)
  tree_composed (Query.disjunction a b) = ap₂ (join_by Node.or) (tree_composed a) (tree_composed b) ∙ sym (joined_composed Node.or or_plain (tree a) (tree b))
  tree_composed (Query.conjunction a b) = ap₂ (join_by Node.and) (tree_composed a) (tree_composed b) ∙ sym (joined_composed Node.and and_plain (tree a) (tree b))
