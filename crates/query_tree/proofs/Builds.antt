-- Nodes build the query whose tree they are: a tree builds its query, and what is built has the nodes that built it.
use Rattle.std.specs.Prelude.{Option, Some, None}
use Prim.Native.Nat.{ℕ}
use mathlib.Core.Path.{◌≡◌, refl, sym, ap, ◌∙◌}
use mathlib.Core.Bool.{Bool, true, false}
use mathlib.Core.List.{List, [], ◌∷◌, ◌++◌, append_assoc}
use lib.Dec.{eqb}
use borrow.Author.Tests.{eqb-true}
use lib.ListN.{length}
use Rattle.text.specs.Bytes.{Bytes}
use Rattle.language.specs.Answer.{◌>>=◌, only_if}
use Rattle.language.specs.Surface.{single, chain, Categories, Identifiers, Alternatives, Query}
use Rattle.query_tree.specs.Nodes.{Node, join_by, tree_categories, tree_identifiers, tree_chain, tree_in, tree}
use Rattle.query_tree.specs.Building.{Part, sized, bar_categories, bar_identifiers, bar_alternatives, bar_parts, join_parts, subquery_part, property_part, link_part, step, run}
use Rattle.query_tree.specs.Pass.{on_one, on_two}

unfoldable pub nodes_of : Part → List Node
nodes_of (Part.query q) = tree q
nodes_of (Part.alternatives a) = tree_in a

-- What is built has the nodes that built it.
unfoldable pub all_nodes : List Part → List Node
all_nodes [] = []
all_nodes (p ∷ st) = all_nodes st ++ nodes_of p

abbrev pub AsBuilt : List Part → Node → List Part → Type 0
AsBuilt st x st' = all_nodes st ++ (x ∷ []) ≡ all_nodes st'

one_built : (x : Node) (f : Part → Option Part) → ((a p : Part) → f a ≡ Some p → nodes_of a ++ (x ∷ []) ≡ nodes_of p) → (st st' : List Part) → on_one f st ≡ Some st' → AsBuilt st x st'
unfolding all_nodes
one_built x f h [] st' e = cc
one_built x f h (a ∷ st) st' e = go (f a) refl e
  where
    go : (o : Option Part) → f a ≡ o → (o >>= λ k. Some (k ∷ st)) ≡ Some st' → all_nodes st ++ nodes_of a ++ (x ∷ []) ≡ all_nodes st'
    go None i j = cc
    go (Some p) i j = append_assoc (all_nodes st) (nodes_of a) (x ∷ []) ∙ ap (λ (l : List Node). all_nodes st ++ l) (h a p i) ∙ ap all_nodes (let k : p ∷ st ≡ st' = cc in k)

two : (k a b : List Node) (x : Node) → k ++ a ++ b ++ (x ∷ []) ≡ k ++ (a ++ b ++ (x ∷ []))
two k a b x = ap (λ (l : List Node). l ++ (x ∷ [])) (append_assoc k a b) ∙ append_assoc k (a ++ b) (x ∷ [])

two_built : (x : Node) (f : Part → Part → Option Part) → ((a b p : Part) → f a b ≡ Some p → nodes_of a ++ nodes_of b ++ (x ∷ []) ≡ nodes_of p) → (st st' : List Part) → on_two f st ≡ Some st' → AsBuilt st x st'
unfolding all_nodes
two_built x f h [] st' e = cc
two_built x f h (b ∷ []) st' e = cc
two_built x f h (b ∷ a ∷ st) st' e = go (f a b) refl e
  where
    go : (o : Option Part) → f a b ≡ o → (o >>= λ k. Some (k ∷ st)) ≡ Some st' → all_nodes st ++ nodes_of a ++ nodes_of b ++ (x ∷ []) ≡ all_nodes st'
    go None i j = cc
    go (Some p) i j = two (all_nodes st) (nodes_of a) (nodes_of b) x ∙ ap (λ (l : List Node). all_nodes st ++ l) (h a b p i) ∙ ap all_nodes (let k : p ∷ st ≡ st' = cc in k)

leaf_built : (x : Node) (p : Part) (st st' : List Part) → nodes_of p ≡ x ∷ [] → Some (p ∷ st) ≡ Some st' → AsBuilt st x st'
unfolding all_nodes
leaf_built x p st st' e j = ap (λ (l : List Node). all_nodes st ++ l) (sym e) ∙ ap all_nodes (let k : p ∷ st ≡ st' = cc in k)

-- Where n is how many nodes the second has, the two are what the node joins.
sized_nodes : (n : ℕ) (f : ℕ → Node) (k l : List Node) (p r : Part) → nodes_of p ≡ join_by f k l → sized n l p ≡ Some r → k ++ l ++ (f n ∷ []) ≡ nodes_of r
sized_nodes n f k l p r h e = go (eqb n (length l)) refl e
  where
    go : (t : Bool) → eqb n (length l) ≡ t → only_if t (Some p) ≡ Some r → k ++ l ++ (f n ∷ []) ≡ nodes_of r
    go true i j = rw (eqb-true n (length l) i) (sym h ∙ ap nodes_of (let q : p ≡ r = cc in q))
    go false i j = cc

bar_nodes : (n : ℕ) (a b r : Part) → bar_parts n a b ≡ Some r → nodes_of a ++ nodes_of b ++ (Node.bar n ∷ []) ≡ nodes_of r
unfolding bar_parts bar_categories bar_identifiers bar_alternatives nodes_of tree tree_categories tree_identifiers
bar_nodes n (Part.query (Query.category a)) (Part.query (Query.category b)) r e = sized_nodes n Node.bar (tree_categories a) (tree_categories b) _ r refl e
bar_nodes n (Part.query (Query.category a)) (Part.query (Query.identifier b)) r e = cc
bar_nodes n (Part.query (Query.category a)) (Part.query (Query.property p b)) r e = cc
bar_nodes n (Part.query (Query.category a)) (Part.query (Query.disjunction b c)) r e = cc
bar_nodes n (Part.query (Query.category a)) (Part.query (Query.conjunction b c)) r e = cc
bar_nodes n (Part.query (Query.category a)) (Part.alternatives b) r e = cc
bar_nodes n (Part.query (Query.identifier a)) (Part.query (Query.category b)) r e = cc
bar_nodes n (Part.query (Query.identifier a)) (Part.query (Query.identifier b)) r e = sized_nodes n Node.bar (tree_identifiers a) (tree_identifiers b) _ r refl e
bar_nodes n (Part.query (Query.identifier a)) (Part.query (Query.property p b)) r e = cc
bar_nodes n (Part.query (Query.identifier a)) (Part.query (Query.disjunction b c)) r e = cc
bar_nodes n (Part.query (Query.identifier a)) (Part.query (Query.conjunction b c)) r e = cc
bar_nodes n (Part.query (Query.identifier a)) (Part.alternatives b) r e = cc
bar_nodes n (Part.query (Query.property p a)) b r e = cc
bar_nodes n (Part.query (Query.disjunction a c)) b r e = cc
bar_nodes n (Part.query (Query.conjunction a c)) b r e = cc
bar_nodes n (Part.alternatives a) (Part.query (Query.category b)) r e = cc
bar_nodes n (Part.alternatives a) (Part.query (Query.identifier b)) r e = cc
bar_nodes n (Part.alternatives a) (Part.query (Query.property p b)) r e = cc
bar_nodes n (Part.alternatives a) (Part.query (Query.disjunction b c)) r e = cc
bar_nodes n (Part.alternatives a) (Part.query (Query.conjunction b c)) r e = cc
bar_nodes n (Part.alternatives a) (Part.alternatives b) r e = sized_nodes n Node.bar (tree_in a) (tree_in b) _ r refl e

join_nodes : (g : Query → Query → Query) (f : ℕ → Node) → ((a b : Query) → tree (g a b) ≡ join_by f (tree a) (tree b)) → (n : ℕ) (a b r : Part) → join_parts g n a b ≡ Some r → nodes_of a ++ nodes_of b ++ (f n ∷ []) ≡ nodes_of r
unfolding join_parts nodes_of
join_nodes g f h n (Part.query a) (Part.query b) r e = sized_nodes n f (tree a) (tree b) (Part.query (g a b)) r (h a b) e
join_nodes g f h n (Part.query a) (Part.alternatives b) r e = cc
join_nodes g f h n (Part.alternatives a) (Part.query b) r e = cc
join_nodes g f h n (Part.alternatives a) (Part.alternatives b) r e = cc

subquery_nodes : (a r : Part) → subquery_part a ≡ Some r → nodes_of a ++ (Node.subquery ∷ []) ≡ nodes_of r
unfolding subquery_part nodes_of tree
subquery_nodes (Part.query q) r e = ap nodes_of (let k : Part.alternatives (Alternatives.subquery q) ≡ r = cc in k)
subquery_nodes (Part.alternatives a) r e = cc

property_nodes : (x : Bytes) (a r : Part) → property_part x a ≡ Some r → nodes_of a ++ (Node.property x ∷ []) ≡ nodes_of r
unfolding property_part nodes_of tree tree_chain
property_nodes x (Part.query q) r e = cc
property_nodes x (Part.alternatives a) r e = ap nodes_of (let k : Part.query (Query.property (single x) a) ≡ r = cc in k)

link_nodes : (x : Bytes) (a r : Part) → link_part x a ≡ Some r → nodes_of a ++ (Node.link x ∷ []) ≡ nodes_of r
unfolding link_part nodes_of tree tree_chain
link_nodes x (Part.query (Query.category c)) r e = cc
link_nodes x (Part.query (Query.identifier i)) r e = cc
link_nodes x (Part.query (Query.property p a)) r e = ap nodes_of (let k : Part.query (Query.property (chain x p) a) ≡ r = cc in k)
link_nodes x (Part.query (Query.disjunction a b)) r e = cc
link_nodes x (Part.query (Query.conjunction a b)) r e = cc
link_nodes x (Part.alternatives a) r e = cc

pub step_built : (x : Node) (st st' : List Part) → step x st ≡ Some st' → AsBuilt st x st'
unfolding nodes_of tree tree_categories tree_identifiers
step_built (Node.and n) st st' e = two_built (Node.and n) _ (join_nodes Query.conjunction Node.and (λ a b. refl) n) st st' e
step_built (Node.or n) st st' e = two_built (Node.or n) _ (join_nodes Query.disjunction Node.or (λ a b. refl) n) st st' e
step_built (Node.bar n) st st' e = two_built (Node.bar n) _ (bar_nodes n) st st' e
step_built (Node.category x) st st' e = leaf_built _ (Part.query (Query.category (Categories.one x))) st st' refl e
step_built (Node.namespace n) st st' e = leaf_built _ (Part.query (Query.identifier (Identifiers.namespace n))) st st' refl e
step_built (Node.reference c r) st st' e = leaf_built _ (Part.query (Query.identifier (Identifiers.reference c r))) st st' refl e
step_built Node.existence st st' e = leaf_built _ (Part.alternatives Alternatives.existence) st st' refl e
step_built (Node.value c v) st st' e = leaf_built _ (Part.alternatives (Alternatives.value c v)) st st' refl e
step_built Node.subquery st st' e = one_built Node.subquery _ subquery_nodes st st' e
step_built (Node.property x) st st' e = one_built (Node.property x) _ (property_nodes x) st st' e
step_built (Node.link x) st st' e = one_built (Node.link x) _ (link_nodes x) st st' e

run_none : (l : List Node) → run l None ≡ None
unfolding run
run_none [] = refl
run_none (x ∷ l) = run_none l

pub run_built : (l : List Node) (st st' : List Part) → run l (Some st) ≡ Some st' → all_nodes st ++ l ≡ all_nodes st'
unfolding run
run_built [] st st' e = append_nil (all_nodes st) ∙ ap all_nodes (let k : st ≡ st' = cc in k)
  where
    append_nil : (k : List Node) → k ++ [] ≡ k
    append_nil [] = refl
    append_nil (x ∷ k) = ap (λ (l : List Node). x ∷ l) (append_nil k)
run_built (x ∷ l) st st' e = go (λ st'' j. run_built l st'' st' j) (step x st) refl e
  where
    go : ((st'' : List Part) → run l (Some st'') ≡ Some st' → all_nodes st'' ++ l ≡ all_nodes st') → (o : Option (List Part)) → step x st ≡ o → run l o ≡ Some st' → all_nodes st ++ (x ∷ l) ≡ all_nodes st'
    go ih None i j = let k : None ≡ Some st' = sym (run_none l) ∙ j in cc
    go ih (Some st'') i j = sym (append_assoc (all_nodes st) (x ∷ []) l) ∙ ap (λ (k : List Node). k ++ l) (step_built x st st'' i) ∙ ih st'' j
