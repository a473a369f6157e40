-- 34: the pass says of nodes whether they are the tree of a text that reading accepts. Two queries never share a tree.
use Rattle.std.specs.Prelude.{Option, Some, None}
use Prim.Native.Nat.{ℕ, suc}
use mathlib.Core.Path.{◌≡◌, refl, sym, ap, ◌∙◌}
use mathlib.Core.Logic.{◌↔◌}
use mathlib.Core.Bool.{Bool, true, false, false≢true}
use mathlib.Core.List.{List, [], ◌∷◌, ◌++◌}
use native.Mathlib.Omega.{arith}
use lib.Dec.{leb}
use lib.ListN.{length, length-append}
use borrow.Author.Tests.{leb-true}
use Rattle.text.specs.Bytes.{Bytes}
use Rattle.values.specs.Values.{map_option}
use Rattle.language.specs.Answer.{accepted, ◌>>=◌, found, only_if}
use Rattle.language.specs.Surface.{Query}
use Rattle.language.specs.QueryText.{read_text}
use Rattle.language.proofs.Members.{and_true}
use Rattle.query_tree_spelling.specs.Spelled.{is_spelled, cost, deep, has_text}
use Rattle.query_tree_spelling.specs.Spelling.{spell}
use Rattle.query_tree_spelling.proofs.Spells.{round_trip}
use Rattle.query_tree_spelling.proofs.Some.{accepted_has_text}
use Rattle.query_tree.specs.Nodes.{Node, tree}
use Rattle.query_tree.specs.Pass.{within, item_run, is_whole, is_tree}
use Rattle.query_tree.specs.declared.Item.{Item}
use Rattle.query_tree.specs.Building.{Part, step, run, only_query, built}
use Rattle.query_tree.proofs.Builds.{nodes_of, all_nodes, step_built, run_built}
use Rattle.query_tree.proofs.Items.{items, step_item, whole_query, whole_alternatives}
use Rattle.query_tree.proofs.Heights.{height, run_within, Builds, low, query_within_lem}

-- The pass goes with the building within 28 entries.
length_items : (st : List Part) → length (items st) ≡ length st
unfolding items
length_items [] = refl
length_items (p ∷ st) = ap suc (length_items st)

within_items : (o : Option (List Part)) → within 28 (map_option items o) ≡ map_option items (within 28 o)
within_items None = refl
within_items (Some st) = ap (λ (n : ℕ). only_if (leb n 28) (Some (items st))) (length_items st) ∙ go (leb (length st) 28)
  where
    go : (t : Bool) → only_if t (Some (items st)) ≡ map_option items (only_if t (Some st))
    go true = refl
    go false = refl

within_is : (m : ℕ) (o : Option (List Part)) (st : List Part) → within m o ≡ Some st → o ≡ Some st
within_is m None st h = h
within_is m (Some k) st h = go (leb (length k) m) h
  where
    go : (t : Bool) → only_if t (Some k) ≡ Some st → Some k ≡ Some st
    go true h = h
    go false h = cc

run_nothing : (at : ℕ) (l : List Node) → item_run at l None ≡ None
unfolding item_run
run_nothing at [] = refl
run_nothing at (x ∷ l) = run_nothing (suc at) l

within_nothing : (l : List Node) → run_within 28 l None ≡ None
unfolding run_within
within_nothing [] = refl
within_nothing (x ∷ l) = within_nothing l

run_items : (l : List Node) (st : List Part) → item_run (length (all_nodes st)) l (Some (items st)) ≡ map_option items (run_within 28 l (Some st))
unfolding item_run run_within
run_items [] st = refl
run_items (x ∷ l) st = ap (item_run (suc (length (all_nodes st))) l) (ap (within 28) (step_item x st) ∙ within_items (step x st)) ∙ go (λ st'. run_items l st') (within 28 (step x st)) refl
  where
    go : ((st' : List Part) → item_run (length (all_nodes st')) l (Some (items st')) ≡ map_option items (run_within 28 l (Some st'))) → (o : Option (List Part)) → within 28 (step x st) ≡ o → item_run (suc (length (all_nodes st))) l (map_option items o) ≡ map_option items (run_within 28 l o)
    go ih None e = run_nothing (suc (length (all_nodes st))) l ∙ ap (map_option items) (sym (within_nothing l))
    go ih (Some st') e = ap (λ (n : ℕ). item_run n l (Some (items st'))) (one_more (step_built x st st' (within_is 28 (step x st) st' e))) ∙ ih st'
      where
        one_more : all_nodes st ++ (x ∷ []) ≡ all_nodes st' → suc (length (all_nodes st)) ≡ length (all_nodes st')
        one_more b = omega (arith, ap length b, length-append (all_nodes st) (x ∷ []))

-- What is built within m entries is built.
run_within_lem : (m : ℕ) (l : List Node) (o o' : Option (List Part)) → ((st : List Part) → o ≡ Some st → o' ≡ Some st) → (st : List Part) → run_within m l o ≡ Some st → run l o' ≡ Some st
unfolding run_within run
run_within_lem m [] o o' f st h = f st h
run_within_lem m (x ∷ l) o o' f st h = run_within_lem m l (o >>= λ k. within m (step x k)) (o' >>= step x) (go o f) st h
  where
    go : (o : Option (List Part)) → ((st : List Part) → o ≡ Some st → o' ≡ Some st) → (st : List Part) → (o >>= λ k. within m (step x k)) ≡ Some st → (o' >>= step x) ≡ Some st
    go None f st h = cc
    go (Some k) f st h = ap (λ (o : Option (List Part)). o >>= step x) (f k refl) ∙ within_is m (step x k) st h

pub tree_passes : (q : Query) → has_text q ≡ true → is_tree (tree q) ≡ true
unfolding is_tree has_text Builds items all_nodes
tree_passes q h =
    let k = and_true (is_spelled q) _ h in
    let d = leb-true (deep q) 8 (and_true (leb (cost q) 1024) (leb (deep q) 8) k.1).1 in
    let t = (low q k.0).whole in
    ap (λ (o : Option (List Item)). found o is_whole false) (run_items (tree q) [] ∙ ap (map_option items) (query_within_lem q 28 [] (omega (arith, t, d)))) ∙ whole_query 0 q ∙ h

-- Nodes that pass are the tree of one query, which some text has.
pub record Passing (l : List Node) : Type 0 where
  pub query : Query
  pub is : tree query ≡ l
  pub has : has_text query ≡ true

pub passes_tree : (l : List Node) → is_tree l ≡ true → Passing l
unfolding is_tree all_nodes nodes_of items
passes_tree l h = go (run_within 28 l (Some [])) refl (sym (ap (λ (o : Option (List Item)). found o is_whole false) (run_items l [])) ∙ h)
  where
    go : (o : Option (List Part)) → run_within 28 l (Some []) ≡ o → found (map_option items o) is_whole false ≡ true → Passing l
    go None e k = absurd (false≢true k)
    go (Some []) e k = absurd (false≢true k)
    go (Some (Part.query q ∷ [])) e k = record { query = q; is = sym (run_built l [] (Part.query q ∷ []) (run_within_lem 28 l (Some []) (Some []) (λ st e. e) (Part.query q ∷ []) e)); has = sym (whole_query 0 q) ∙ k }
    go (Some (Part.alternatives a ∷ [])) e k = absurd (false≢true (sym (whole_alternatives 0 a) ∙ k))
    go (Some (b ∷ a ∷ st)) e k = absurd (false≢true k)

-- The nodes are the tree of some text that reading accepts, exactly where the pass says so.
pub is_tree_lem : (l : List Node) → (is_tree l ≡ true) ↔ ((s : Bytes) × (q : Query) × (read_text s ≡ accepted q) × (tree q ≡ l))
is_tree_lem l = (
  λ h. let t = passes_tree l h in (spell t.query, t.query, round_trip t.query t.has, t.is),
  λ t. ap is_tree (sym t.3) ∙ tree_passes t.1 (accepted_has_text t.0 t.1 t.2),
)

run_tree : (q : Query) → run (tree q) (Some []) ≡ Some (Part.query q ∷ [])
unfolding Builds
run_tree q = run_within_lem (height q) (tree q) (Some []) (Some []) (λ st e. e) _ (query_within_lem q (height q) [] (omega arith))

pub built_tree : (q : Query) → built (tree q) ≡ Some q
unfolding built
built_tree q = ap (λ (o : Option (List Part)). o >>= only_query) (run_tree q)

pub tree_faithful : (a b : Query) → tree a ≡ tree b → a ≡ b
tree_faithful a b e = let k : Some a ≡ Some b = sym (built_tree a) ∙ ap built e ∙ built_tree b in cc
