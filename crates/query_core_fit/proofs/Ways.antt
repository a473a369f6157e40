-- What the functions that fit parts answer, by what they called.
use Rattle.std.specs.Prelude.{Option, Some, None}
use Prim.Native.Nat.{ℕ, suc, ◌+◌, ◌-◌, ◌≤◌, ◌<◌}
use mathlib.Core.Path.{◌≡◌, sym, subst, ◌∙◌}
use mathlib.Core.Bool.{Bool}
use mathlib.Core.List.{List, [], ◌∷◌, ◌++◌}
use native.Mathlib.Omega.{arith}
use lib.ListN.{length, length-append}
use Rattle.text.specs.Bytes.{Bytes, part}
use Rattle.text.specs.Parts.{part_of}
use Rattle.text.specs.declared.Span.{Span}
use Rattle.values.specs.declared.Kind.{Kind}
use Rattle.language.specs.Core.{Core}
use Rattle.language.specs.Elaboration.{inside}
use Rattle.language.specs.Register.{Typing, kinds_of}
use Rattle.language.specs.Surface.{Chain, single, chain, Categories, Identifiers, Alternatives, Query}
use Rattle.query_core.specs.declared.Place.{Place}
use Rattle.register_form.specs.Form.{register_in}
use Rattle.query_core_emit.specs.Emission.{Adds, connective_node}
use Rattle.query_tree.specs.Nodes.{Node, tree_categories, tree_identifiers, tree_chain, tree_in, tree}
use Rattle.query_tree.specs.declared.TreeNode.{TreeNode}
use Rattle.query_tree.specs.Form.{strings_in, node_in, nodes_in}
use Rattle.query_tree.specs.Reading.{node_by}
use Rattle.query_core_fit.specs.declared.Step.{Step}
use Rattle.query_core_fit.specs.Fitting.{step_of, Fits, FitsTwo, Wraps, LeafAt, LeafIn, core_of_query, in_core, chain_tree, chain_core, AtNode, InNode, ChainNode, FitsIn}
use Rattle.query_core_fit.proofs.Parts.{query_fits, in_fits, chain_fits}
use Rattle.query_core_fit.proofs.Joins.{two_short, two_first, two_second, two_both, wrap_unfit, wrap_at}

-- No part is without nodes.
behind_some : (l : List Node) (x : Node) → 1 ≤ length (l ++ (x ∷ []))
behind_some l x = omega (arith, length-append l (x ∷ []))

chain_some : (p : Chain) (l : List Node) → 1 ≤ length (tree_chain p l)
unfolding tree_chain
chain_some (single x) l = behind_some l (Node.property x)
chain_some (chain x p) l = behind_some (tree_chain p l) (Node.link x)

query_some : (q : Query) → 1 ≤ length (tree q)
unfolding tree tree_categories tree_identifiers
query_some (Query.category (Categories.one x)) = omega arith
query_some (Query.category (Categories.either a b)) = behind_some (tree_categories a ++ tree_categories b) (Node.bar (length (tree_categories b)))
query_some (Query.identifier (Identifiers.namespace n)) = omega arith
query_some (Query.identifier (Identifiers.reference c r)) = omega arith
query_some (Query.identifier (Identifiers.either a b)) = behind_some (tree_identifiers a ++ tree_identifiers b) (Node.bar (length (tree_identifiers b)))
query_some (Query.property p a) = chain_some p (tree_in a)
query_some (Query.disjunction a b) = behind_some (tree a ++ tree b) (Node.or (length (tree b)))
query_some (Query.conjunction a b) = behind_some (tree a ++ tree b) (Node.and (length (tree b)))

in_some : (a : Alternatives) → 1 ≤ length (tree_in a)
unfolding tree
in_some Alternatives.existence = omega arith
in_some (Alternatives.value c v) = omega arith
in_some (Alternatives.subquery q) = behind_some (tree q) Node.subquery
in_some (Alternatives.either a b) = behind_some (tree_in a ++ tree_in b) (Node.bar (length (tree_in b)))

module _ {A : Type 0} (t : A → List Node) (e : A → Option Core) (some_node : (a : A) → 1 ≤ length (t a)) where
  none_there : (l : List Node) (i : ℕ) (h : Bytes) (p : Place) → i ≡ 0 → Fits t e l i h p None h
  none_there l i h p z = record { is = λ k m a f n. absurd (omega (arith, n, z, some_node a)) }

-- t are the bytes of the tree, g those of the register.
module _ (t g : Bytes) where
  abbrev Γ : Typing
  Γ = kinds_of (register_in g)

  module _ (i : ℕ) (h : Bytes) (p : Place) (z : i ≡ 0) where
    pub query_none : Fits tree (core_of_query (kinds_of (register_in g))) (nodes_in t) i h p None h
    query_none = none_there tree (core_of_query Γ) query_some (nodes_in t) i h p z

    pub chain_none : Fits (chain_tree (kinds_of (register_in g))) (chain_core (kinds_of (register_in g))) (nodes_in t) i h p None h
    chain_none = none_there (chain_tree Γ) (chain_core Γ) (λ c. chain_some c.0 (tree_in c.1)) (nodes_in t) i h p z

    pub in_none : (x : Span) (kind : Option Kind) → FitsIn (strings_in t) (kinds_of (register_in g)) (nodes_in t) x kind i h p None h
    unfolding FitsIn
    in_none x kind known = none_there tree_in (in_core Γ (part_of (strings_in t) x)) in_some (nodes_in t) i h p z

  module _ (node : TreeNode) (step : Step) (i : ℕ) (nonzero : i ≡ 0 → ⊥) (is : node_by (strings_in t) node ≡ node_in t (i - 1)) (asks : step ≡ step_of node) (h : Bytes) (p : Place) (r : Option Place) (h' : Bytes) where
    next : i ≡ suc (i - 1)
    next = omega (arith, nonzero)

    next_fits : {A : Type 0} (f : A → List Node) (e : A → Option Core) → Fits f e (nodes_in t) i h p r h' → Fits f e (nodes_in t) (suc (i - 1)) h p r h'
    next_fits f e d = subst (λ (n : ℕ). Fits f e (nodes_in t) n h p r h') next d

    -- A query, by what its last node asks for.
    abbrev AtStep : TreeNode → Step → Type 0
    AtStep n (Step.Two k or) = FitsTwo tree (core_of_query Γ) or (nodes_in t) k (i - 1) h p r h'
    AtStep n Step.Subquery = Unit {0}
    AtStep n (Step.Property x) = Fits (chain_tree Γ) (chain_core Γ) (nodes_in t) i h p r h'
    AtStep n (Step.Link x) = Fits (chain_tree Γ) (chain_core Γ) (nodes_in t) i h p r h'
    AtStep n Step.Leaf = LeafAt (node_by (strings_in t) n) h p r h'

    step_at : (n : TreeNode) → AtStep n (step_of n) → AtNode Γ (nodes_in t) (node_by (strings_in t) n) (i - 1) h p r h'
    step_at (TreeNode.And k) d = d
    step_at (TreeNode.Or k) d = d
    step_at (TreeNode.Bar k) d = d
    step_at (TreeNode.Category x) d = d
    step_at (TreeNode.Namespace x) d = d
    step_at (TreeNode.Bare c x) d = d
    step_at (TreeNode.Qualified c x y) d = d
    step_at TreeNode.Existence d = tt
    step_at (TreeNode.Value c x) d = tt
    step_at TreeNode.Subquery d = tt
    step_at (TreeNode.Property x) d = next_fits (chain_tree Γ) (chain_core Γ) d
    step_at (TreeNode.Link x) d = next_fits (chain_tree Γ) (chain_core Γ) d

    by_step_lem : (u : Step) → step ≡ u → AtStep node u → Fits tree (core_of_query Γ) (nodes_in t) i h p r h'
    by_step_lem u e d = query_fits t Γ (node_by (strings_in t) node) i (i - 1) is next h p r h' (step_at node (subst (AtStep node) (sym e ∙ asks) d))

    pub query_subquery : step ≡ Step.Subquery → Fits tree (core_of_query (kinds_of (register_in g))) (nodes_in t) i h p r h'
    query_subquery e = by_step_lem Step.Subquery e tt

    pub query_property : (x : Span) → step ≡ Step.Property x → Fits (chain_tree (kinds_of (register_in g))) (chain_core (kinds_of (register_in g))) (nodes_in t) i h p r h' → Fits tree (core_of_query (kinds_of (register_in g))) (nodes_in t) i h p r h'
    query_property x e d = by_step_lem (Step.Property x) e d

    pub query_link : (x : Span) → step ≡ Step.Link x → Fits (chain_tree (kinds_of (register_in g))) (chain_core (kinds_of (register_in g))) (nodes_in t) i h p r h' → Fits tree (core_of_query (kinds_of (register_in g))) (nodes_in t) i h p r h'
    query_link x e d = by_step_lem (Step.Link x) e d

    pub query_leaf : (s : Bytes) → step ≡ Step.Leaf → s ≡ part t 4088 1024 → LeafAt (node_by s node) h p r h' → Fits tree (core_of_query (kinds_of (register_in g))) (nodes_in t) i h p r h'
    query_leaf s e f d = by_step_lem Step.Leaf e (rw f at d)

    -- A chain.
    abbrev ChainStep : Step → Type 0
    ChainStep (Step.Two k or) = Unit {0}
    ChainStep Step.Subquery = Unit {0}
    ChainStep (Step.Property x) = Fits tree_in (in_core Γ (part_of (strings_in t) x)) (nodes_in t) (i - 1) h p r h'
    ChainStep (Step.Link x) = Fits (chain_tree Γ) (λ c. inside (part_of (strings_in t) x) (Γ (part_of (strings_in t) x)) (chain_core Γ c)) (nodes_in t) (i - 1) h p r h'
    ChainStep Step.Leaf = Unit {0}

    step_chain : (n : TreeNode) → ChainStep (step_of n) → ChainNode Γ (nodes_in t) (node_by (strings_in t) n) (i - 1) h p r h'
    step_chain (TreeNode.And k) d = tt
    step_chain (TreeNode.Or k) d = tt
    step_chain (TreeNode.Bar k) d = tt
    step_chain (TreeNode.Category x) d = tt
    step_chain (TreeNode.Namespace x) d = tt
    step_chain (TreeNode.Bare c x) d = tt
    step_chain (TreeNode.Qualified c x y) d = tt
    step_chain TreeNode.Existence d = tt
    step_chain (TreeNode.Value c x) d = tt
    step_chain TreeNode.Subquery d = tt
    step_chain (TreeNode.Property x) d = d
    step_chain (TreeNode.Link x) d = d

    chain_by : (u : Step) → step ≡ u → ChainStep u → Fits (chain_tree Γ) (chain_core Γ) (nodes_in t) i h p r h'
    chain_by u e d = chain_fits t Γ (node_by (strings_in t) node) i (i - 1) is next h p r h' (step_chain node (subst ChainStep (sym e ∙ asks) d))

    pub chain_two : (n : ℕ) (or : Bool) → step ≡ Step.Two n or → Fits (chain_tree (kinds_of (register_in g))) (chain_core (kinds_of (register_in g))) (nodes_in t) i h p r h'
    chain_two n or e = chain_by (Step.Two n or) e tt

    pub chain_subquery : step ≡ Step.Subquery → Fits (chain_tree (kinds_of (register_in g))) (chain_core (kinds_of (register_in g))) (nodes_in t) i h p r h'
    chain_subquery e = chain_by Step.Subquery e tt

    pub chain_leaf : step ≡ Step.Leaf → Fits (chain_tree (kinds_of (register_in g))) (chain_core (kinds_of (register_in g))) (nodes_in t) i h p r h'
    chain_leaf e = chain_by Step.Leaf e tt

    -- A property's alternatives.
    module _ (x : Span) where
      abbrev InStep : TreeNode → Step → Type 0
      InStep n (Step.Two k or) = FitsTwo tree_in (in_core Γ (part_of (strings_in t) x)) or (nodes_in t) k (i - 1) h p r h'
      InStep n Step.Subquery = Fits tree (λ q. inside (part_of (strings_in t) x) (Γ (part_of (strings_in t) x)) (core_of_query Γ q)) (nodes_in t) (i - 1) h p r h'
      InStep n (Step.Property y) = Unit {0}
      InStep n (Step.Link y) = Unit {0}
      InStep n Step.Leaf = LeafIn (part_of (strings_in t) x) (Γ (part_of (strings_in t) x)) (node_by (strings_in t) n) h p r h'

      step_in : (n : TreeNode) → InStep n (step_of n) → InNode Γ (nodes_in t) (part_of (strings_in t) x) (node_by (strings_in t) n) (i - 1) h p r h'
      step_in (TreeNode.And k) d = tt
      step_in (TreeNode.Or k) d = tt
      step_in (TreeNode.Bar k) d = d
      step_in (TreeNode.Category y) d = tt
      step_in (TreeNode.Namespace y) d = tt
      step_in (TreeNode.Bare c y) d = tt
      step_in (TreeNode.Qualified c y z) d = tt
      step_in TreeNode.Existence d = d
      step_in (TreeNode.Value c y) d = d
      step_in TreeNode.Subquery d = d
      step_in (TreeNode.Property y) d = tt
      step_in (TreeNode.Link y) d = tt

      in_by : (u : Step) → step ≡ u → InStep node u → Fits tree_in (in_core Γ (part_of (strings_in t) x)) (nodes_in t) i h p r h'
      in_by u e d = in_fits t Γ (node_by (strings_in t) node) i (i - 1) is next h p r h' (part_of (strings_in t) x) (step_in node (subst (InStep node) (sym e ∙ asks) d))

      module _ (kind : Option Kind) where
        pub in_property : (y : Span) → step ≡ Step.Property y → FitsIn (strings_in t) (kinds_of (register_in g)) (nodes_in t) x kind i h p r h'
        unfolding FitsIn
        in_property y e known = in_by (Step.Property y) e tt

        pub in_link : (y : Span) → step ≡ Step.Link y → FitsIn (strings_in t) (kinds_of (register_in g)) (nodes_in t) x kind i h p r h'
        unfolding FitsIn
        in_link y e known = in_by (Step.Link y) e tt

        pub in_leaf : (s : Bytes) → step ≡ Step.Leaf → s ≡ part t 4088 1024 → LeafIn (part_of s x) (kind) (node_by s node) h p r h' → FitsIn (strings_in t) (kinds_of (register_in g)) (nodes_in t) x kind i h p r h'
        unfolding FitsIn
        in_leaf s e f d known = in_by Step.Leaf e (subst (λ k. LeafIn (part_of (strings_in t) x) k (node_by (strings_in t) node) h p r h') known (rw f at d))

  -- A chain's last name, and one that leads on.
  module _ (node : TreeNode) (step : Step) (i : ℕ) (nonzero : i ≡ 0 → ⊥) (is : node_by (strings_in t) node ≡ node_in t (i - 1)) (asks : step ≡ step_of node) (x : Span) (kind : Option Kind) (s : Bytes) (f : s ≡ part t 4088 1024) (known : kind ≡ kinds_of (register_in g) (part_of s x)) (h : Bytes) (p : Place) where
    here : kind ≡ Γ (part_of (strings_in t) x)
    here = rw f at known

    pub chain_property : (r : Option Place) (h' : Bytes) → step ≡ Step.Property x → FitsIn (strings_in t) (kinds_of (register_in g)) (nodes_in t) x kind (i - 1) h p r h' → Fits (chain_tree (kinds_of (register_in g))) (chain_core (kinds_of (register_in g))) (nodes_in t) i h p r h'
    unfolding FitsIn
    chain_property r h' e d = chain_by node step i nonzero is asks h p r h' (Step.Property x) e (d here)

    pub chain_link : (r v : Option Place) (p₁ : Place) (h₁ h' : Bytes) → step ≡ Step.Link x → Fits (chain_tree (kinds_of (register_in g))) (chain_core (kinds_of (register_in g))) (nodes_in t) (i - 1) h p v h₁ → v ≡ Some p₁ → Wraps (part_of s x) (kind) h₁ p₁ r h' → Fits (chain_tree (kinds_of (register_in g))) (chain_core (kinds_of (register_in g))) (nodes_in t) i h p r h'
    chain_link r v p₁ h₁ h' e d u w =
        chain_by node step i nonzero is asks h p r h' (Step.Link x) e
        (wrap_at (chain_tree Γ) (chain_core Γ) (nodes_in t) (i - 1) (part_of (strings_in t) x) (Γ (part_of (strings_in t) x)) h h₁ p r p₁ h' (rw u at d) (subst (λ k. Wraps (part_of (strings_in t) x) k h₁ p₁ r h') here (rw f at w)))

    pub chain_unfit : (v : Option Place) (h₁ : Bytes) → step ≡ Step.Link x → Fits (chain_tree (kinds_of (register_in g))) (chain_core (kinds_of (register_in g))) (nodes_in t) (i - 1) h p v h₁ → v ≡ None → Fits (chain_tree (kinds_of (register_in g))) (chain_core (kinds_of (register_in g))) (nodes_in t) i h p None h₁
    chain_unfit v h₁ e d u =
        chain_by node step i nonzero is asks h p None h₁ (Step.Link x) e
        (wrap_unfit (chain_tree Γ) (chain_core Γ) (nodes_in t) (i - 1) (part_of (strings_in t) x) (Γ (part_of (strings_in t) x)) h h₁ p (rw u at d))

  -- A query inside a property.
  module _ (node : TreeNode) (step : Step) (i : ℕ) (nonzero : i ≡ 0 → ⊥) (is : node_by (strings_in t) node ≡ node_in t (i - 1)) (asks : step ≡ step_of node) (x : Span) (kind : Option Kind) (h : Bytes) (p : Place) (e : step ≡ Step.Subquery) where
    pub in_subquery : (r v : Option Place) (p₁ : Place) (h₁ h' s : Bytes) → s ≡ part t 4088 1024 → Fits tree (core_of_query (kinds_of (register_in g))) (nodes_in t) (i - 1) h p v h₁ → v ≡ Some p₁ → Wraps (part_of s x) (kind) h₁ p₁ r h' → FitsIn (strings_in t) (kinds_of (register_in g)) (nodes_in t) x kind i h p r h'
    unfolding FitsIn
    in_subquery r v p₁ h₁ h' s f d u w known =
        in_by node step i nonzero is asks h p r h' x Step.Subquery e
        (wrap_at tree (core_of_query Γ) (nodes_in t) (i - 1) (part_of (strings_in t) x) (Γ (part_of (strings_in t) x)) h h₁ p r p₁ h' (rw u at d) (subst (λ k. Wraps (part_of (strings_in t) x) k h₁ p₁ r h') known (rw f at w)))

    pub in_unfit : (v : Option Place) (h₁ : Bytes) → Fits tree (core_of_query (kinds_of (register_in g))) (nodes_in t) (i - 1) h p v h₁ → v ≡ None → FitsIn (strings_in t) (kinds_of (register_in g)) (nodes_in t) x kind i h p None h₁
    unfolding FitsIn
    in_unfit v h₁ d u known =
        in_by node step i nonzero is asks h p None h₁ x Step.Subquery e
        (wrap_unfit tree (core_of_query Γ) (nodes_in t) (i - 1) (part_of (strings_in t) x) (Γ (part_of (strings_in t) x)) h h₁ p (rw u at d))

  -- Two sides, n nodes in the second, and what joins them.
  module _ {A : Type 0} (f : A → List Node) (e : A → Option Core) (or : Bool) (n j : ℕ) (enough : n ≤ j) (h : Bytes) (p : Place) where
    whole : (j - n) + n ≡ j
    whole = omega (arith, enough)

    sides_first : (v : Option Place) (h₁ : Bytes) → Fits f e (nodes_in t) (j - n) h p v h₁ → v ≡ None → FitsTwo f e or (nodes_in t) n j h p None h₁
    sides_first v h₁ a u = two_first f e or (nodes_in t) n (j - n) j h p whole h₁ (rw u at a)

    sides_second : (v w : Option Place) (h₁ h₂ : Bytes) (p₁ : Place) → Fits f e (nodes_in t) (j - n) h p v h₁ → v ≡ Some p₁ → Fits f e (nodes_in t) j h₁ p₁ w h₂ → w ≡ None → FitsTwo f e or (nodes_in t) n j h p None h₂
    sides_second v w h₁ h₂ p₁ a u b y = two_second f e or (nodes_in t) n (j - n) j h p whole h₁ h₂ p₁ (rw u at a) (rw y at b)

    sides_both : (v w : Option Place) (h₁ h₂ h₃ : Bytes) (p₁ p₂ p₃ : Place) → Fits f e (nodes_in t) (j - n) h p v h₁ → v ≡ Some p₁ → Fits f e (nodes_in t) j h₁ p₁ w h₂ → w ≡ Some p₂ → Adds (connective_node or ∷ []) h₂ p₂ h₃ p₃ → FitsTwo f e or (nodes_in t) n j h p (Some p₃) h₃
    sides_both v w h₁ h₂ h₃ p₁ p₂ p₃ a u b y d = two_both f e or (nodes_in t) n (j - n) j h p whole h₁ h₂ h₃ p₁ p₂ p₃ (rw u at a) (rw y at b) d

  module _ (node : TreeNode) (step : Step) (i : ℕ) (nonzero : i ≡ 0 → ⊥) (is : node_by (strings_in t) node ≡ node_in t (i - 1)) (asks : step ≡ step_of node) (n : ℕ) (or : Bool) (e : step ≡ Step.Two n or) (h : Bytes) (p : Place) where
    abbrev at_two : (r : Option Place) (h' : Bytes) → FitsTwo tree (core_of_query Γ) or (nodes_in t) n (i - 1) h p r h' → Fits tree (core_of_query Γ) (nodes_in t) i h p r h'
    at_two r h' d = by_step_lem node step i nonzero is asks h p r h' (Step.Two n or) e d

    abbrev in_two : (x : Span) (r : Option Place) (h' : Bytes) → FitsTwo tree_in (in_core Γ (part_of (strings_in t) x)) or (nodes_in t) n (i - 1) h p r h' → Fits tree_in (in_core Γ (part_of (strings_in t) x)) (nodes_in t) i h p r h'
    in_two x r h' d = in_by node step i nonzero is asks h p r h' x (Step.Two n or) e d

    pub query_short : i - 1 < n → Fits tree (core_of_query (kinds_of (register_in g))) (nodes_in t) i h p None h
    query_short l = at_two None h (two_short tree (core_of_query Γ) or (nodes_in t) n 0 (i - 1) h p l)

    pub in_short : (x : Span) (kind : Option Kind) → i - 1 < n → FitsIn (strings_in t) (kinds_of (register_in g)) (nodes_in t) x kind i h p None h
    unfolding FitsIn
    in_short x kind l known = in_two x None h (two_short tree_in (in_core Γ (part_of (strings_in t) x)) or (nodes_in t) n 0 (i - 1) h p l)

    module _ (enough : n ≤ i - 1) where
      pub query_first : (v : Option Place) (h₁ : Bytes) → Fits tree (core_of_query (kinds_of (register_in g))) (nodes_in t) (i - 1 - n) h p v h₁ → v ≡ None → Fits tree (core_of_query (kinds_of (register_in g))) (nodes_in t) i h p None h₁
      query_first v h₁ a u = at_two None h₁ (sides_first tree (core_of_query Γ) or n (i - 1) enough h p v h₁ a u)

      pub query_second : (v w : Option Place) (h₁ h₂ : Bytes) (p₁ : Place) → Fits tree (core_of_query (kinds_of (register_in g))) (nodes_in t) (i - 1 - n) h p v h₁ → v ≡ Some p₁ → Fits tree (core_of_query (kinds_of (register_in g))) (nodes_in t) (i - 1) h₁ p₁ w h₂ → w ≡ None → Fits tree (core_of_query (kinds_of (register_in g))) (nodes_in t) i h p None h₂
      query_second v w h₁ h₂ p₁ a u b y = at_two None h₂ (sides_second tree (core_of_query Γ) or n (i - 1) enough h p v w h₁ h₂ p₁ a u b y)

      pub query_both : (v w : Option Place) (h₁ h₂ h₃ : Bytes) (p₁ p₂ p₃ : Place) → Fits tree (core_of_query (kinds_of (register_in g))) (nodes_in t) (i - 1 - n) h p v h₁ → v ≡ Some p₁ → Fits tree (core_of_query (kinds_of (register_in g))) (nodes_in t) (i - 1) h₁ p₁ w h₂ → w ≡ Some p₂ → Adds (connective_node or ∷ []) h₂ p₂ h₃ p₃ → Fits tree (core_of_query (kinds_of (register_in g))) (nodes_in t) i h p (Some p₃) h₃
      query_both v w h₁ h₂ h₃ p₁ p₂ p₃ a u b y d = at_two (Some p₃) h₃ (sides_both tree (core_of_query Γ) or n (i - 1) enough h p v w h₁ h₂ h₃ p₁ p₂ p₃ a u b y d)

      module _ (x : Span) (kind : Option Kind) where
        pub in_first : (v : Option Place) (h₁ : Bytes) → FitsIn (strings_in t) (kinds_of (register_in g)) (nodes_in t) x kind (i - 1 - n) h p v h₁ → v ≡ None → FitsIn (strings_in t) (kinds_of (register_in g)) (nodes_in t) x kind i h p None h₁
        unfolding FitsIn
        in_first v h₁ a u known = in_two x None h₁ (sides_first tree_in (in_core Γ (part_of (strings_in t) x)) or n (i - 1) enough h p v h₁ (a known) u)

        pub in_second : (v w : Option Place) (h₁ h₂ : Bytes) (p₁ : Place) → FitsIn (strings_in t) (kinds_of (register_in g)) (nodes_in t) x kind (i - 1 - n) h p v h₁ → v ≡ Some p₁ → FitsIn (strings_in t) (kinds_of (register_in g)) (nodes_in t) x kind (i - 1) h₁ p₁ w h₂ → w ≡ None → FitsIn (strings_in t) (kinds_of (register_in g)) (nodes_in t) x kind i h p None h₂
        unfolding FitsIn
        in_second v w h₁ h₂ p₁ a u b y known = in_two x None h₂ (sides_second tree_in (in_core Γ (part_of (strings_in t) x)) or n (i - 1) enough h p v w h₁ h₂ p₁ (a known) u (b known) y)

        pub in_both : (v w : Option Place) (h₁ h₂ h₃ : Bytes) (p₁ p₂ p₃ : Place) → FitsIn (strings_in t) (kinds_of (register_in g)) (nodes_in t) x kind (i - 1 - n) h p v h₁ → v ≡ Some p₁ → FitsIn (strings_in t) (kinds_of (register_in g)) (nodes_in t) x kind (i - 1) h₁ p₁ w h₂ → w ≡ Some p₂ → Adds (connective_node or ∷ []) h₂ p₂ h₃ p₃ → FitsIn (strings_in t) (kinds_of (register_in g)) (nodes_in t) x kind i h p (Some p₃) h₃
        unfolding FitsIn
        in_both v w h₁ h₂ h₃ p₁ p₂ p₃ a u b y d known = in_two x (Some p₃) h₃ (sides_both tree_in (in_core Γ (part_of (strings_in t) x)) or n (i - 1) enough h p v w h₁ h₂ h₃ p₁ p₂ p₃ (a known) u (b known) y d)

pub ruleset descends = (query_none, chain_none, in_none, query_subquery, query_property, query_link, query_leaf, chain_two, chain_subquery, chain_leaf, in_property, in_link, in_leaf, chain_property, chain_link, chain_unfit, in_subquery, in_unfit, query_short, query_first, query_second, query_both, in_short, in_first, in_second, in_both)
