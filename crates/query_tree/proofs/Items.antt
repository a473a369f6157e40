-- What the pass keeps of each part goes with the building of the parts.
use Rattle.std.specs.Prelude.{Option, Some, None}
use Prim.Native.Nat.{ℕ, suc, ◌+◌, ◌-◌, max}
use mathlib.Core.Path.{◌≡◌, refl, sym, ap, ap₂, ◌∙◌}
use mathlib.Core.Bool.{Bool, true, false, ◌&&◌}
use mathlib.Core.List.{List, [], ◌∷◌, ◌++◌}
use native.Mathlib.Omega.{arith}
use lib.Dec.{leb, eqb}
use lib.ListN.{length, length-append}
use borrow.Author.Tests.{le-leb, leb-true, lt-leb, leb-false}
use Rattle.text.specs.Bytes.{Bytes}
use Rattle.names.specs.Names.{is_composed_property_name}
use Rattle.values.specs.Values.{map_option}
use Rattle.language.specs.Answer.{◌>>=◌, only_if}
use Rattle.language.specs.Surface.{single, Categories, Identifiers, Alternatives, Query}
use Rattle.language.specs.QueryText.{names_in}
use Rattle.query_tree_spelling.specs.Spelled.{is_one_category, is_one_identifier, is_one_alternative, is_disjunction, is_joined, spelled_categories, spelled_identifiers, reads_as_category, spelled_names, spelled_chain, spelled_in, is_spelled, cost_categories, cost_identifiers, cost_chain, wrapped, under, cost_in, cost, deep_in, deep, has_text}
use Rattle.query_tree.specs.Nodes.{Node, join_by, tree_categories, tree_identifiers, tree_in, tree}
use Rattle.query_tree.specs.Pass.{is_query, is_or, is_two, full_bytes, is_good, up_to_bytes, up_to_levels, item_of, leaf_item, subquery_item, property_item, link_item, bar_item, or_item, and_item, on_one, on_two, item_step, is_whole}
use Rattle.query_tree.specs.declared.Shape.{Shape}
use Rattle.query_tree.specs.declared.Item.{Item}
use Rattle.query_tree.specs.Building.{Part, bar_categories, bar_identifiers, bar_alternatives, bar_parts, join_parts, subquery_part, property_part, link_part, step}
use Rattle.query_tree.proofs.Builds.{nodes_of, all_nodes}

-- What is kept of a part that begins at a node, and of a stack of parts.
unfoldable pub item : ℕ → Part → Item
item at (Part.query (Query.category c)) = item_of Shape.Categories at 0 (is_one_category c) false (spelled_categories c) (cost_categories c) 0
item at (Part.query (Query.identifier i)) = item_of Shape.Identifiers at 0 (is_one_identifier i) (reads_as_category i) (spelled_identifiers i) (cost_identifiers i) 0
item at (Part.query (Query.property p a)) = item_of Shape.Property at (names_in p) true false (spelled_chain p && spelled_in a) (6 + cost_chain p + cost_in a) (deep_in a)
item at (Part.query (Query.disjunction a b)) = item_of Shape.Disjunction at 0 false false (is_spelled a && is_spelled b) (cost (Query.disjunction a b)) (deep (Query.disjunction a b))
item at (Part.query (Query.conjunction a b)) = item_of Shape.Conjunction at 0 false false (is_spelled a && is_spelled b) (cost (Query.conjunction a b)) (deep (Query.conjunction a b))
item at (Part.alternatives a) = item_of Shape.Alternatives at 0 (is_one_alternative a) false (spelled_in a) (cost_in a) (deep_in a)

unfoldable pub items : List Part → List Item
items [] = []
items (p ∷ st) = item (length (all_nodes st)) p ∷ items st

abbrev raw_item : Shape → ℕ → ℕ → Bool → Bool → Bool → ℕ → ℕ → Item
raw_item s at m o l k b d = record { shape = s; from = at; names = m; one = o; leads = l; kept = k; bytes = b; depth = d }

same_item : (s : Shape) (at : ℕ) (o l : Bool) {m m' : ℕ} {k k' : Bool} {b b' d d' : ℕ} → m ≡ m' → k ≡ k' → b ≡ b' → d ≡ d' → raw_item s at m o l k b d ≡ raw_item s at m' o l k' b' d'
same_item s at o l e f g h = rw (e, f, g, h)

and_yes : (a : Bool) → a && true ≡ a
and_yes true = refl
and_yes false = refl

-- What is kept of a query.
record Kept (at : ℕ) (q : Query) : Type 0 where
  good : is_good (item at (Part.query q)) ≡ is_spelled q
  costs : up_to_bytes (full_bytes (item at (Part.query q))) ≡ up_to_bytes (cost q)
  deepness : (item at (Part.query q)).depth ≡ up_to_levels (deep q)
  or : is_or (item at (Part.query q)).shape ≡ is_disjunction q
  two : is_two (item at (Part.query q)).shape ≡ is_joined q
  is : is_query (item at (Part.query q)).shape ≡ true
  begins : (item at (Part.query q)).from ≡ at

kept : (at : ℕ) (q : Query) → Kept at q
unfolding item is_spelled cost deep
kept at (Query.category c) = record { good = and_yes (spelled_categories c); costs = omega arith; deepness = refl; or = refl; two = refl; is = refl; begins = refl }
kept at (Query.identifier i) = record { good = refl; costs = omega arith; deepness = refl; or = refl; two = refl; is = refl; begins = refl }
kept at (Query.property p a) = record { good = and_yes (spelled_chain p && spelled_in a); costs = omega arith; deepness = refl; or = refl; two = refl; is = refl; begins = refl }
kept at (Query.disjunction a b) = record { good = and_yes (is_spelled a && is_spelled b); costs = omega arith; deepness = refl; or = refl; two = refl; is = refl; begins = refl }
kept at (Query.conjunction a b) = record { good = and_yes (is_spelled a && is_spelled b); costs = omega arith; deepness = refl; or = refl; two = refl; is = refl; begins = refl }

-- How many nodes two have with what joins them.
pub joined_count : (f : ℕ → Node) (k l : List Node) → suc (length k + length l) ≡ length (join_by f k l)
joined_count f k l = omega (arith, length-append (k ++ l) (f (length l) ∷ []), length-append k l)

only : (t u : Bool) (i : Item) (at : ℕ) (p : Part) → t ≡ u → i ≡ item at p → only_if t (Some i) ≡ map_option (item at) (only_if u (Some p))
only t true i at p h e = rw h (ap Some e)
only t false i at p h e = rw h

-- Counts that stop go with counts.
wrapped_stops : (t : Bool) (n m : ℕ) → up_to_bytes n ≡ up_to_bytes m → up_to_bytes (wrapped t n) ≡ up_to_bytes (wrapped t m)
wrapped_stops true n m e = omega (arith, e)
wrapped_stops false n m e = e

under_stops : (t : Bool) (n m : ℕ) → n ≡ up_to_levels m → up_to_levels (under t n) ≡ up_to_levels (under t m)
under_stops true n m e = omega (arith, e)
under_stops false n m e = omega (arith, e)

sum_stops : (a a' b b' : ℕ) → up_to_bytes a ≡ up_to_bytes a' → up_to_bytes b ≡ up_to_bytes b' → up_to_bytes (a + b) ≡ up_to_bytes (a' + b')
sum_stops a a' b b' e f = omega (arith, e, f)

max_both : (a b : ℕ) → up_to_levels (max a b) ≡ max (up_to_levels a) (up_to_levels b)
max_both a b = omega arith

max_stops : (a a' b b' : ℕ) → up_to_levels a ≡ up_to_levels a' → up_to_levels b ≡ up_to_levels b' → up_to_levels (max a b) ≡ up_to_levels (max a' b')
max_stops a a' b b' e f = max_both a b ∙ ap₂ max e f ∙ sym (max_both a' b')

-- Connectives.
abbrev part : ℕ → Query → Item
part at q = item at (Part.query q)

same_or : (at lb : ℕ) (a b : Query) → item_of Shape.Disjunction (part at a).from 0 false false (is_good (part at a) && is_good (part lb b)) (full_bytes (part at a) + (2 + wrapped (is_or (part lb b).shape) (full_bytes (part lb b)))) (max (part at a).depth (under (is_or (part lb b).shape) (part lb b).depth)) ≡ item at (Part.query (Query.disjunction a b))
unfolding cost deep item
same_or at lb a b =
    let i = kept at a in
    let j = kept lb b in
    ap (λ (n : ℕ). item_of Shape.Disjunction n 0 false false (is_good (part at a) && is_good (part lb b)) (full_bytes (part at a) + (2 + wrapped (is_or (part lb b).shape) (full_bytes (part lb b)))) (max (part at a).depth (under (is_or (part lb b).shape) (part lb b).depth))) i.begins
    ∙ same_item Shape.Disjunction at false false refl (ap₂ ◌&&◌ i.good j.good)
    (sum_stops (full_bytes (part at a)) (cost a) (2 + wrapped (is_or (part lb b).shape) (full_bytes (part lb b))) (2 + wrapped (is_disjunction b) (cost b)) i.costs
    (sum_stops 2 2 (wrapped (is_or (part lb b).shape) (full_bytes (part lb b))) (wrapped (is_disjunction b) (cost b)) refl (ap (λ (t : Bool). up_to_bytes (wrapped t (full_bytes (part lb b)))) j.or ∙ wrapped_stops (is_disjunction b) _ _ j.costs)))
    (max_stops (part at a).depth (deep a) (under (is_or (part lb b).shape) (part lb b).depth) (under (is_disjunction b) (deep b)) (again (part at a).depth (deep a) i.deepness) (ap (λ (t : Bool). up_to_levels (under t (part lb b).depth)) j.or ∙ under_stops (is_disjunction b) _ _ j.deepness))
  where
    again : (n m : ℕ) → n ≡ up_to_levels m → up_to_levels n ≡ up_to_levels m
    again n m e = omega (arith, e)

same_and : (at lb : ℕ) (a b : Query) → item_of Shape.Conjunction (part at a).from 0 false false (is_good (part at a) && is_good (part lb b)) (wrapped (is_or (part at a).shape) (full_bytes (part at a)) + wrapped (is_two (part lb b).shape) (full_bytes (part lb b))) (max (under (is_or (part at a).shape) (part at a).depth) (under (is_two (part lb b).shape) (part lb b).depth)) ≡ item at (Part.query (Query.conjunction a b))
unfolding cost deep item
same_and at lb a b =
    let i = kept at a in
    let j = kept lb b in
    ap (λ (n : ℕ). item_of Shape.Conjunction n 0 false false (is_good (part at a) && is_good (part lb b)) (wrapped (is_or (part at a).shape) (full_bytes (part at a)) + wrapped (is_two (part lb b).shape) (full_bytes (part lb b))) (max (under (is_or (part at a).shape) (part at a).depth) (under (is_two (part lb b).shape) (part lb b).depth))) i.begins
    ∙ same_item Shape.Conjunction at false false refl (ap₂ ◌&&◌ i.good j.good)
    (sum_stops (wrapped (is_or (part at a).shape) (full_bytes (part at a))) (wrapped (is_disjunction a) (cost a)) (wrapped (is_two (part lb b).shape) (full_bytes (part lb b))) (wrapped (is_joined b) (cost b))
    (ap (λ (t : Bool). up_to_bytes (wrapped t (full_bytes (part at a)))) i.or ∙ wrapped_stops (is_disjunction a) _ _ i.costs)
    (ap (λ (t : Bool). up_to_bytes (wrapped t (full_bytes (part lb b)))) j.two ∙ wrapped_stops (is_joined b) _ _ j.costs))
    (max_stops (under (is_or (part at a).shape) (part at a).depth) (under (is_disjunction a) (deep a)) (under (is_two (part lb b).shape) (part lb b).depth) (under (is_joined b) (deep b))
    (ap (λ (t : Bool). up_to_levels (under t (part at a).depth)) i.or ∙ under_stops (is_disjunction a) _ _ i.deepness)
    (ap (λ (t : Bool). up_to_levels (under t (part lb b).depth)) j.two ∙ under_stops (is_joined b) _ _ j.deepness))

-- Node `at`, behind the second of two, which begins at lb.
behind_second : (at lb : ℕ) (b : Part) → at ≡ lb + length (nodes_of b) → at - lb ≡ length (nodes_of b)
behind_second at lb b e = omega (arith, e)

join_tests : (at n la lb : ℕ) (a b : Query) → at ≡ lb + length (tree b) → is_query (part la a).shape && (is_query (part lb b).shape && eqb n (at - (part lb b).from)) ≡ eqb n (length (tree b))
join_tests at n la lb a b e = rw ((kept la a).is, (kept lb b).is, (kept lb b).begins) (ap (eqb n) (let z : at - lb ≡ length (tree b) = omega (arith, e) in z))

-- A node's work on two items is the work on the two parts.
OnTwo : (ℕ → Item → Item → Option Item) → (Part → Part → Option Part) → Type 0
OnTwo g f = (at la lb : ℕ) (a b : Part) → at ≡ lb + length (nodes_of b) → g at (item la a) (item lb b) ≡ map_option (item la) (f a b)

or_item_lem : (n : ℕ) → OnTwo (λ at. or_item at n) (join_parts Query.disjunction n)
unfolding OnTwo or_item join_parts nodes_of item
or_item_lem n at la lb (Part.query a) (Part.query b) e = only _ _ _ la (Part.query (Query.disjunction a b)) (join_tests at n la lb a b e) (same_or la lb a b)
or_item_lem n at la lb (Part.query a) (Part.alternatives b) e = rw (kept la a).is
or_item_lem n at la lb (Part.alternatives a) (Part.query b) e = refl
or_item_lem n at la lb (Part.alternatives a) (Part.alternatives b) e = refl

and_item_lem : (n : ℕ) → OnTwo (λ at. and_item at n) (join_parts Query.conjunction n)
unfolding OnTwo and_item join_parts nodes_of item
and_item_lem n at la lb (Part.query a) (Part.query b) e = only _ _ _ la (Part.query (Query.conjunction a b)) (join_tests at n la lb a b e) (same_and la lb a b)
and_item_lem n at la lb (Part.query a) (Part.alternatives b) e = rw (kept la a).is
and_item_lem n at la lb (Part.alternatives a) (Part.query b) e = refl
and_item_lem n at la lb (Part.alternatives a) (Part.alternatives b) e = refl

-- Alternatives.
bar_bytes : (a b : ℕ) → up_to_bytes (up_to_bytes a + (2 + up_to_bytes b)) ≡ up_to_bytes (a + (2 + b))
bar_bytes a b = sum_stops (up_to_bytes a) a (2 + up_to_bytes b) (2 + b) (omega arith) (omega arith)

bar_depth : (a b : ℕ) → up_to_levels (max (up_to_levels a) (up_to_levels b)) ≡ up_to_levels (max a b)
bar_depth a b = max_stops (up_to_levels a) a (up_to_levels b) b (omega arith) (omega arith)

counted : (n at lb : ℕ) (l : List Node) → at ≡ lb + length l → eqb n (at - lb) ≡ eqb n (length l)
counted n at lb l e = ap (eqb n) (let z : at - lb ≡ length l = omega (arith, e) in z)

bar_item_lem : (n : ℕ) → OnTwo (λ at. bar_item at n) (bar_parts n)
unfolding OnTwo bar_item bar_parts bar_categories bar_identifiers bar_alternatives nodes_of item tree tree_categories tree_identifiers spelled_categories spelled_identifiers reads_as_category cost_categories cost_identifiers is_spelled cost deep
bar_item_lem n at la lb (Part.query (Query.category a)) (Part.query (Query.category b)) e =
    only _ _ _ la (Part.query (Query.category (Categories.either a b))) (counted n at lb (tree_categories b) e) (same_item Shape.Categories la false false refl refl (bar_bytes (cost_categories a) (cost_categories b)) refl)
bar_item_lem n at la lb (Part.query (Query.category a)) (Part.query (Query.identifier b)) e = refl
bar_item_lem n at la lb (Part.query (Query.category a)) (Part.query (Query.property p b)) e = refl
bar_item_lem n at la lb (Part.query (Query.category a)) (Part.query (Query.disjunction b c)) e = refl
bar_item_lem n at la lb (Part.query (Query.category a)) (Part.query (Query.conjunction b c)) e = refl
bar_item_lem n at la lb (Part.query (Query.category a)) (Part.alternatives b) e = refl
bar_item_lem n at la lb (Part.query (Query.identifier a)) (Part.query (Query.category b)) e = refl
bar_item_lem n at la lb (Part.query (Query.identifier a)) (Part.query (Query.identifier b)) e =
    only _ _ _ la (Part.query (Query.identifier (Identifiers.either a b))) (counted n at lb (tree_identifiers b) e) (same_item Shape.Identifiers la false (reads_as_category a) refl refl (bar_bytes (cost_identifiers a) (cost_identifiers b)) refl)
bar_item_lem n at la lb (Part.query (Query.identifier a)) (Part.query (Query.property p b)) e = refl
bar_item_lem n at la lb (Part.query (Query.identifier a)) (Part.query (Query.disjunction b c)) e = refl
bar_item_lem n at la lb (Part.query (Query.identifier a)) (Part.query (Query.conjunction b c)) e = refl
bar_item_lem n at la lb (Part.query (Query.identifier a)) (Part.alternatives b) e = refl
bar_item_lem n at la lb (Part.query (Query.property p a)) b e = refl
bar_item_lem n at la lb (Part.query (Query.disjunction a c)) b e = refl
bar_item_lem n at la lb (Part.query (Query.conjunction a c)) b e = refl
bar_item_lem n at la lb (Part.alternatives a) (Part.query (Query.category b)) e = refl
bar_item_lem n at la lb (Part.alternatives a) (Part.query (Query.identifier b)) e = refl
bar_item_lem n at la lb (Part.alternatives a) (Part.query (Query.property p b)) e = refl
bar_item_lem n at la lb (Part.alternatives a) (Part.query (Query.disjunction b c)) e = refl
bar_item_lem n at la lb (Part.alternatives a) (Part.query (Query.conjunction b c)) e = refl
bar_item_lem n at la lb (Part.alternatives a) (Part.alternatives b) e =
    only _ _ _ la (Part.alternatives (Alternatives.either a b)) (counted n at lb (tree_in b) e) (same_item Shape.Alternatives la false false refl refl (bar_bytes (cost_in a) (cost_in b)) (bar_depth (deep_in a) (deep_in b)))

-- A subquery, a property, one name more.
subquery_item_lem : (at : ℕ) (a : Part) → subquery_item (item at a) ≡ map_option (item at) (subquery_part a)
unfolding subquery_item subquery_part item cost deep is_spelled
subquery_item_lem at (Part.query q) =
    let i = kept at q in
    only _ true _ at (Part.alternatives (Alternatives.subquery q)) i.is
    (ap (λ (n : ℕ). item_of Shape.Alternatives n 0 true false (is_good (part at q)) (7 + full_bytes (part at q)) (suc (part at q).depth)) i.begins
    ∙ same_item Shape.Alternatives at true false refl i.good (sum_stops 7 7 (full_bytes (part at q)) (cost q) refl i.costs) (deeper (part at q).depth (deep q) i.deepness))
  where
    deeper : (n m : ℕ) → n ≡ up_to_levels m → up_to_levels (suc n) ≡ up_to_levels (suc m)
    deeper n m e = omega (arith, e)
subquery_item_lem at (Part.alternatives a) = refl

name_kept : (x : Bytes) → spelled_chain (single x) ≡ is_composed_property_name x
unfolding spelled_chain spelled_names names_in
name_kept x = and_yes (is_composed_property_name x)

property_item_lem : (x : Bytes) (at : ℕ) (a : Part) → property_item x (item at a) ≡ map_option (item at) (property_part x a)
unfolding property_item property_part item names_in cost_chain
property_item_lem x at (Part.query (Query.category c)) = refl
property_item_lem x at (Part.query (Query.identifier i)) = refl
property_item_lem x at (Part.query (Query.property p a)) = refl
property_item_lem x at (Part.query (Query.disjunction a b)) = refl
property_item_lem x at (Part.query (Query.conjunction a b)) = refl
property_item_lem x at (Part.alternatives a) = ap Some (same_item Shape.Property at true false refl (ap (λ (t : Bool). t && spelled_in a) (sym (name_kept x))) (sum_stops (6 + length x) (6 + length x) (up_to_bytes (cost_in a)) (cost_in a) refl (omega arith)) (omega arith))

link_kept : (b k t u s : Bool) → (t ≡ true → u ≡ true) → b && (t && ((k && u) && s)) ≡ ((b && k) && t) && s
link_kept true true true u s h = rw (h refl)
link_kept true true false u s h = refl
link_kept true false true u s h = refl
link_kept true false false u s h = refl
link_kept false k t u s h = refl

-- one name more, up to 9
names_stop : (n : ℕ) → leb (suc (up_to_levels n)) 8 ≡ leb (suc n) 8
names_stop n = go (leb (suc n) 8) refl
  where
    go : (t : Bool) → leb (suc n) 8 ≡ t → leb (suc (up_to_levels n)) 8 ≡ t
    go true e = le-leb (suc (up_to_levels n)) 8 (omega (arith, leb-true (suc n) 8 e))
    go false e = lt-leb (suc (up_to_levels n)) 8 (omega (arith, leb-false (suc n) 8 e))

link_item_lem : (x : Bytes) (at : ℕ) (a : Part) → link_item x (item at a) ≡ map_option (item at) (link_part x a)
unfolding link_item link_part item names_in cost_chain spelled_chain spelled_names
link_item_lem x at (Part.query (Query.category c)) = refl
link_item_lem x at (Part.query (Query.identifier i)) = refl
link_item_lem x at (Part.query (Query.property p a)) =
    ap Some (same_item Shape.Property at true false (omega arith)
    (ap (λ (t : Bool). is_composed_property_name x && (t && ((spelled_names p && leb (names_in p) 8) && spelled_in a))) (names_stop (names_in p))
    ∙ link_kept (is_composed_property_name x) (spelled_names p) (leb (suc (names_in p)) 8) (leb (names_in p) 8) (spelled_in a) (λ e. le-leb (names_in p) 8 (omega (arith, leb-true (suc (names_in p)) 8 e))))
    (omega arith) (omega arith))
link_item_lem x at (Part.query (Query.disjunction a b)) = refl
link_item_lem x at (Part.query (Query.conjunction a b)) = refl
link_item_lem x at (Part.alternatives a) = refl

-- The pass goes with the building.
on_two_lem : (f : Part → Part → Option Part) (g : ℕ → Item → Item → Option Item) → OnTwo g f → (st : List Part) → on_two (g (length (all_nodes st))) (items st) ≡ map_option items (on_two f st)
unfolding OnTwo items all_nodes
on_two_lem f g e [] = refl
on_two_lem f g e (b ∷ []) = refl
on_two_lem f g e (b ∷ a ∷ st) = ap (λ (o : Option Item). o >>= λ k. Some (k ∷ items st)) (e _ (length (all_nodes st)) (length (all_nodes st ++ nodes_of a)) a b (length-append (all_nodes st ++ nodes_of a) (nodes_of b))) ∙ go (f a b)
  where
    go : (o : Option Part) → (map_option (item (length (all_nodes st))) o >>= λ k. Some (k ∷ items st)) ≡ map_option items (o >>= λ k. Some (k ∷ st))
    go None = refl
    go (Some x) = refl

on_one_lem : (f : Part → Option Part) (g : Item → Option Item) → ((at : ℕ) (a : Part) → g (item at a) ≡ map_option (item at) (f a)) → (st : List Part) → on_one g (items st) ≡ map_option items (on_one f st)
unfolding items
on_one_lem f g e [] = refl
on_one_lem f g e (a ∷ st) = ap (λ (o : Option Item). o >>= λ k. Some (k ∷ items st)) (e (length (all_nodes st)) a) ∙ go (f a)
  where
    go : (o : Option Part) → (map_option (item (length (all_nodes st))) o >>= λ k. Some (k ∷ items st)) ≡ map_option items (o >>= λ k. Some (k ∷ st))
    go None = refl
    go (Some x) = refl

pub step_item : (x : Node) (st : List Part) → item_step (length (all_nodes st)) x (items st) ≡ map_option items (step x st)
unfolding items item leaf_item spelled_categories spelled_identifiers reads_as_category cost_categories cost_identifiers is_spelled cost deep
step_item (Node.and n) st = on_two_lem (join_parts Query.conjunction n) (λ at. and_item at n) (and_item_lem n) st
step_item (Node.or n) st = on_two_lem (join_parts Query.disjunction n) (λ at. or_item at n) (or_item_lem n) st
step_item (Node.bar n) st = on_two_lem (bar_parts n) (λ at. bar_item at n) (bar_item_lem n) st
step_item (Node.category x) st = refl
step_item (Node.namespace n) st = refl
step_item (Node.reference c r) st = refl
step_item Node.existence st = refl
step_item (Node.value c v) st = refl
step_item Node.subquery st = on_one_lem subquery_part subquery_item subquery_item_lem st
step_item (Node.property x) st = on_one_lem (property_part x) (property_item x) (property_item_lem x) st
step_item (Node.link x) st = on_one_lem (link_part x) (link_item x) (link_item_lem x) st

-- The whole.
bytes_stop : (n m : ℕ) → up_to_bytes n ≡ up_to_bytes m → leb n 1024 ≡ leb m 1024
bytes_stop n m e = go (leb m 1024) refl
  where
    go : (t : Bool) → leb m 1024 ≡ t → leb n 1024 ≡ t
    go true f = le-leb n 1024 (omega (arith, e, leb-true m 1024 f))
    go false f = lt-leb n 1024 (omega (arith, e, leb-false m 1024 f))

levels_stop : (n m : ℕ) → n ≡ up_to_levels m → leb n 8 ≡ leb m 8
levels_stop n m e = go (leb m 8) refl
  where
    go : (t : Bool) → leb m 8 ≡ t → leb n 8 ≡ t
    go true f = le-leb n 8 (omega (arith, e, leb-true m 8 f))
    go false f = lt-leb n 8 (omega (arith, e, leb-false m 8 f))

pub whole_query : (at : ℕ) (q : Query) → is_whole (item at (Part.query q) ∷ []) ≡ has_text q
unfolding has_text
whole_query at q = let i = kept at q in rw i.is (ap₂ ◌&&◌ i.good (ap₂ ◌&&◌ (bytes_stop (full_bytes (part at q)) (cost q) i.costs) (levels_stop (part at q).depth (deep q) i.deepness)))

pub whole_alternatives : (at : ℕ) (a : Alternatives) → is_whole (item at (Part.alternatives a) ∷ []) ≡ false
unfolding item
whole_alternatives at a = refl
