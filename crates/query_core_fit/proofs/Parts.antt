-- A part is fitted by its last node.
use Rattle.std.specs.Prelude.{Option}
use Prim.Native.Nat.{ℕ, suc, ◌+◌}
use mathlib.Core.Path.{◌≡◌, refl, sym, subst, ◌∙◌}
use mathlib.Core.List.{List, [], ◌∷◌, ◌++◌}
use lib.ListN.{length}
use Rattle.text.specs.Bytes.{Bytes}
use Rattle.language.specs.Register.{Typing}
use Rattle.language.specs.Surface.{Chain, single, chain, Categories, Identifiers, Alternatives, Query}
use Rattle.language.specs.Elaboration.{elaborate_categories, elaborate_identifiers, joined, along, elaborate_in, elaborate}
use Rattle.query_core.specs.declared.Place.{Place}
use Rattle.query_core_emit.specs.Emission.{Emits}
use Rattle.query_tree.specs.Nodes.{Node, tree_categories, tree_identifiers, tree_chain, tree_in, tree}
use Rattle.query_tree.specs.Form.{node_in, nodes_in}
use Rattle.query_core_fit.specs.Fitting.{Fits, core_of_query, in_core, chain_tree, chain_core, AtNode, InNode, ChainNode}
use Rattle.query_core_fit.proofs.Places.{Last, last_there, sides_there, sides_number}

module _ (t : Bytes) (Γ : Typing) (x : Node) (i j : ℕ) (is : x ≡ node_in t j) (next : i ≡ suc j) (h : Bytes) (p : Place) (r : Option Place) (h' : Bytes) where
  -- what is known of the node that was read, for the last node of a part
  at_last : (k f : List Node) (y : Node) (m : List Node) → Last t k f y m j → AtNode Γ (nodes_in t) x j h p r h' → AtNode Γ (nodes_in t) y j h p r h'
  at_last k f y m d a = subst (λ (z : Node). AtNode Γ (nodes_in t) z j h p r h') (is ∙ d.node) a

  in_last : (n : Bytes) (k f : List Node) (y : Node) (m : List Node) → Last t k f y m j → InNode Γ (nodes_in t) n x j h p r h' → InNode Γ (nodes_in t) n y j h p r h'
  in_last n k f y m d a = subst (λ (z : Node). InNode Γ (nodes_in t) n z j h p r h') (is ∙ d.node) a

  chain_last : (k f : List Node) (y : Node) (m : List Node) → Last t k f y m j → ChainNode Γ (nodes_in t) x j h p r h' → ChainNode Γ (nodes_in t) y j h p r h'
  chain_last k f y m d a = subst (λ (z : Node). ChainNode Γ (nodes_in t) z j h p r h') (is ∙ d.node) a

  pub query_fits : AtNode Γ (nodes_in t) x j h p r h' → Fits tree (core_of_query Γ) (nodes_in t) i h p r h'
  unfolding tree tree_categories tree_identifiers tree_chain elaborate elaborate_categories elaborate_identifiers joined
  query_fits a = record { is = go }
    where
      go : (k m : List Node) (q : Query) → nodes_in t ≡ k ++ (tree q ++ m) → i ≡ length k + length (tree q) → Emits (elaborate q Γ) h p r h'
      go k m (Query.category (Categories.one y)) e n = at_last k [] (Node.category y) m (last_there t k [] (Node.category y) m i j e n next) a
      go k m (Query.category (Categories.either b c)) e n =
          let d = last_there t k (tree_categories b ++ tree_categories c) (Node.bar (length (tree_categories c))) m i j e n next in
          (at_last k (tree_categories b ++ tree_categories c) (Node.bar (length (tree_categories c))) m d a).is k (Node.bar (length (tree_categories c)) ∷ m) (Query.category b) (Query.category c) (sides_there (tree_categories b) (tree_categories c) d) refl (sides_number (tree_categories b) (tree_categories c) d)
      go k m (Query.identifier (Identifiers.namespace y)) e n = at_last k [] (Node.namespace y) m (last_there t k [] (Node.namespace y) m i j e n next) a
      go k m (Query.identifier (Identifiers.reference c f)) e n = at_last k [] (Node.reference c f) m (last_there t k [] (Node.reference c f) m i j e n next) a
      go k m (Query.identifier (Identifiers.either b c)) e n =
          let d = last_there t k (tree_identifiers b ++ tree_identifiers c) (Node.bar (length (tree_identifiers c))) m i j e n next in
          (at_last k (tree_identifiers b ++ tree_identifiers c) (Node.bar (length (tree_identifiers c))) m d a).is k (Node.bar (length (tree_identifiers c)) ∷ m) (Query.identifier b) (Query.identifier c) (sides_there (tree_identifiers b) (tree_identifiers c) d) refl (sides_number (tree_identifiers b) (tree_identifiers c) d)
      go k m (Query.property (single y) b) e n =
          (at_last k (tree_in b) (Node.property y) m (last_there t k (tree_in b) (Node.property y) m i j e n next) a).is k m (single y, b) e (sym next ∙ n)
      go k m (Query.property (chain y c) b) e n =
          (at_last k (tree_chain c (tree_in b)) (Node.link y) m (last_there t k (tree_chain c (tree_in b)) (Node.link y) m i j e n next) a).is k m (chain y c, b) e (sym next ∙ n)
      go k m (Query.disjunction b c) e n =
          let d = last_there t k (tree b ++ tree c) (Node.or (length (tree c))) m i j e n next in
          (at_last k (tree b ++ tree c) (Node.or (length (tree c))) m d a).is k (Node.or (length (tree c)) ∷ m) b c (sides_there (tree b) (tree c) d) refl (sides_number (tree b) (tree c) d)
      go k m (Query.conjunction b c) e n =
          let d = last_there t k (tree b ++ tree c) (Node.and (length (tree c))) m i j e n next in
          (at_last k (tree b ++ tree c) (Node.and (length (tree c))) m d a).is k (Node.and (length (tree c)) ∷ m) b c (sides_there (tree b) (tree c) d) refl (sides_number (tree b) (tree c) d)

  pub in_fits : (n : Bytes) → InNode Γ (nodes_in t) n x j h p r h' → Fits tree_in (in_core Γ n) (nodes_in t) i h p r h'
  unfolding tree elaborate
  in_fits y a = record { is = go }
    where
      go : (k m : List Node) (b : Alternatives) → nodes_in t ≡ k ++ (tree_in b ++ m) → i ≡ length k + length (tree_in b) → Emits (elaborate_in b Γ y) h p r h'
      go k m Alternatives.existence e n = in_last y k [] Node.existence m (last_there t k [] Node.existence m i j e n next) a
      go k m (Alternatives.value c v) e n = in_last y k [] (Node.value c v) m (last_there t k [] (Node.value c v) m i j e n next) a
      go k m (Alternatives.subquery q) e n =
          let d = last_there t k (tree q) Node.subquery m i j e n next in
          (in_last y k (tree q) Node.subquery m d a).is k (Node.subquery ∷ m) q d.before d.number
      go k m (Alternatives.either b c) e n =
          let d = last_there t k (tree_in b ++ tree_in c) (Node.bar (length (tree_in c))) m i j e n next in
          (in_last y k (tree_in b ++ tree_in c) (Node.bar (length (tree_in c))) m d a).is k (Node.bar (length (tree_in c)) ∷ m) b c (sides_there (tree_in b) (tree_in c) d) refl (sides_number (tree_in b) (tree_in c) d)

  pub chain_fits : ChainNode Γ (nodes_in t) x j h p r h' → Fits (chain_tree Γ) (chain_core Γ) (nodes_in t) i h p r h'
  unfolding tree_chain along
  chain_fits a = record { is = go }
    where
      go : (k m : List Node) (c : Chain × Alternatives) → nodes_in t ≡ k ++ (tree_chain c.0 (tree_in c.1) ++ m) → i ≡ length k + length (tree_chain c.0 (tree_in c.1)) → Emits (along Γ c.0 (λ y. elaborate_in c.1 Γ y)) h p r h'
      go k m (single y, b) e n =
          let d = last_there t k (tree_in b) (Node.property y) m i j e n next in
          (chain_last k (tree_in b) (Node.property y) m d a).is k (Node.property y ∷ m) b d.before d.number
      go k m (chain y c, b) e n =
          let d = last_there t k (tree_chain c (tree_in b)) (Node.link y) m i j e n next in
          (chain_last k (tree_chain c (tree_in b)) (Node.link y) m d a).is k (Node.link y ∷ m) (c, b) d.before d.number
