-- The pass over a tree of an accepted text needs at most 28 entries, and every tree builds its query.
use Rattle.std.specs.Prelude.{Option, Some}
use Prim.Native.Nat.{ℕ, suc, ◌+◌, ◌*◌, ◌≤◌, max}
use mathlib.Core.Path.{◌≡◌, refl, ap, ◌∙◌}
use mathlib.Core.Bool.{true, false, false≢true}
use mathlib.Core.List.{List, [], ◌∷◌, ◌++◌}
use native.Mathlib.Omega.{arith}
use lib.ListN.{length}
use borrow.Author.Tests.{le-leb, eq-eqb}
use Rattle.language.specs.Answer.{◌>>=◌}
use Rattle.language.specs.Surface.{Chain, single, chain, Categories, Identifiers, Alternatives, Query}
use Rattle.language.proofs.Members.{and_true}
use Rattle.query_tree_spelling.specs.Spelled.{is_one_identifier, is_one_alternative, is_disjunction, is_joined, spelled_categories, spelled_identifiers, spelled_chain, spelled_in, is_spelled, under, deep_in, deep}
use Rattle.query_tree.specs.Nodes.{Node, join_by, tree_categories, tree_identifiers, tree_chain, tree_in, tree}
use Rattle.query_tree.specs.Pass.{within}
use Rattle.query_tree.specs.Building.{Part, sized, bar_categories, bar_identifiers, bar_alternatives, bar_parts, join_parts, subquery_part, property_part, link_part, step}

-- How many entries the pass over a query's nodes needs.
unfoldable pub height_categories : Categories → ℕ
height_categories (Categories.one x) = 1
height_categories (Categories.either a b) = max (height_categories a) (suc (height_categories b))

unfoldable pub height_identifiers : Identifiers → ℕ
height_identifiers (Identifiers.namespace n) = 1
height_identifiers (Identifiers.reference c r) = 1
height_identifiers (Identifiers.either a b) = max (height_identifiers a) (suc (height_identifiers b))

unfoldable mutual
  pub height_in : Alternatives → ℕ
  height_in Alternatives.existence = 1
  height_in (Alternatives.value c v) = 1
  height_in (Alternatives.subquery q) = height q
  height_in (Alternatives.either a b) = max (height_in a) (suc (height_in b))

  pub height : Query → ℕ
  height (Query.category c) = height_categories c
  height (Query.identifier i) = height_identifiers i
  height (Query.property p a) = height_in a
  height (Query.disjunction a b) = max (height a) (suc (height b))
  height (Query.conjunction a b) = max (height a) (suc (height b))

-- Three a level: an `OR`, a conjunction and a `||` may wait.
categories_low : (c : Categories) → spelled_categories c ≡ true → height_categories c ≤ 2
unfolding height_categories spelled_categories
categories_low (Categories.one x) h = omega arith
categories_low (Categories.either a (Categories.one y)) h = omega (arith, categories_low a (and_true (spelled_categories a) _ h).0)
categories_low (Categories.either a (Categories.either b c)) h = absurd (false≢true (and_true (spelled_categories a) false h).1)

identifiers_low : (i : Identifiers) → spelled_identifiers i ≡ true → height_identifiers i ≤ 2
unfolding height_identifiers spelled_identifiers
identifiers_low (Identifiers.namespace n) h = omega arith
identifiers_low (Identifiers.reference c r) h = omega arith
identifiers_low (Identifiers.either a b) h =
    let k = and_true (spelled_identifiers a) _ h in
    omega (arith, identifiers_low a k.0, single_low b (and_true (is_one_identifier b) _ k.1).0)
  where
    single_low : (b : Identifiers) → is_one_identifier b ≡ true → height_identifiers b ≤ 1
    single_low (Identifiers.namespace n) h = omega arith
    single_low (Identifiers.reference c r) h = omega arith
    single_low (Identifiers.either a b) h = absurd (false≢true h)

pub record Low (q : Query) : Type 0 where
  pub whole : height q ≤ 3 * deep q + 4
  operand : height q ≤ 3 * under (is_disjunction q) (deep q) + 3
  term : height q ≤ 3 * under (is_joined q) (deep q) + 2

record LowIn (a : Alternatives) : Type 0 where
  all : height_in a ≤ 3 * deep_in a + 2
  one : is_one_alternative a ≡ true → height_in a ≤ 3 * deep_in a + 1

mutual
  unfolding height deep is_spelled

  low_in : (a : Alternatives) → spelled_in a ≡ true → LowIn a
  low_in Alternatives.existence h = record { all = omega arith; one = λ e. omega arith }
  low_in (Alternatives.value c v) h = record { all = omega arith; one = λ e. omega arith }
  low_in (Alternatives.subquery q) h = let t = low q h in record { all = omega (arith, t.whole); one = λ e. omega (arith, t.whole) }
  low_in (Alternatives.either a b) h =
      let k = and_true (spelled_in a) _ h in
      let j = and_true (is_one_alternative b) _ k.1 in
      record { all = omega (arith, (low_in a k.0).all, (low_in b j.1).one j.0); one = λ e. absurd (false≢true e) }

  pub low : (q : Query) → is_spelled q ≡ true → Low q
  low (Query.category c) h = let t = categories_low c h in record { whole = omega (arith, t); operand = omega (arith, t); term = omega (arith, t) }
  low (Query.identifier i) h = let t = identifiers_low i (and_true (spelled_identifiers i) _ h).0 in record { whole = omega (arith, t); operand = omega (arith, t); term = omega (arith, t) }
  low (Query.property p a) h = let t = (low_in a (and_true (spelled_chain p) (spelled_in a) h).1).all in record { whole = omega (arith, t); operand = omega (arith, t); term = t }
  low (Query.disjunction a b) h =
      let k = and_true (is_spelled a) (is_spelled b) h in
      let t = (low a k.0).whole in
      let u = (low b k.1).operand in
      record { whole = omega (arith, t, u); operand = omega (arith, t, u); term = omega (arith, t, u) }
  low (Query.conjunction a b) h =
      let k = and_true (is_spelled a) (is_spelled b) h in
      let t = (low a k.0).operand in
      let u = (low b k.1).term in
      record { whole = omega (arith, t, u); operand = omega (arith, t, u); term = omega (arith, t, u) }

-- Some entry is always needed.
some_categories : (c : Categories) → 1 ≤ height_categories c
unfolding height_categories
some_categories (Categories.one x) = omega arith
some_categories (Categories.either a b) = omega arith

some_identifiers : (i : Identifiers) → 1 ≤ height_identifiers i
unfolding height_identifiers
some_identifiers (Identifiers.namespace n) = omega arith
some_identifiers (Identifiers.reference c r) = omega arith
some_identifiers (Identifiers.either a b) = omega arith

mutual
  unfolding height

  some_in : (a : Alternatives) → 1 ≤ height_in a
  some_in Alternatives.existence = omega arith
  some_in (Alternatives.value c v) = omega arith
  some_in (Alternatives.subquery q) = some_of q
  some_in (Alternatives.either a b) = omega arith

  some_of : (q : Query) → 1 ≤ height q
  some_of (Query.category c) = some_categories c
  some_of (Query.identifier i) = some_identifiers i
  some_of (Query.property p a) = some_in a
  some_of (Query.disjunction a b) = omega arith
  some_of (Query.conjunction a b) = omega arith

-- The building within m entries.
unfoldable pub run_within : ℕ → List Node → Option (List Part) → Option (List Part)
run_within m [] o = o
run_within m (x ∷ l) o = run_within m l (o >>= λ st. within m (step x st))

within_append : (m : ℕ) (k l : List Node) (o : Option (List Part)) → run_within m (k ++ l) o ≡ run_within m l (run_within m k o)
unfolding run_within
within_append m [] l o = refl
within_append m (x ∷ k) l o = within_append m k l (o >>= λ st. within m (step x st))

last_within : (m : ℕ) (x : Node) (o : Option (List Part)) (st st' : List Part) → o ≡ Some st → step x st ≡ Some st' → length st' ≤ m → run_within m (x ∷ []) o ≡ Some st'
unfolding run_within
last_within m x o st st' e f h = rw (e, f, le-leb (length st') m h)

-- Nodes build a part with n entries.
unfoldable pub Builds : List Node → Part → ℕ → Type 0
Builds l p n = (m : ℕ) (st : List Part) → length st + n ≤ m → run_within m l (Some st) ≡ Some (p ∷ st)

leaf_within : (x : Node) (p : Part) → ((st : List Part) → step x st ≡ Some (p ∷ st)) → Builds (x ∷ []) p 1
unfolding Builds
leaf_within x p e m st h = last_within m x (Some st) st (p ∷ st) refl (e st) (omega (arith, h))

one_within : (l : List Node) (x : Node) (a p : Part) (n : ℕ) → 1 ≤ n → Builds l a n → ((st : List Part) → step x (a ∷ st) ≡ Some (p ∷ st)) → Builds (l ++ (x ∷ [])) p n
unfolding Builds
one_within l x a p n k b e m st h = within_append m l (x ∷ []) (Some st) ∙ last_within m x (run_within m l (Some st)) (a ∷ st) (p ∷ st) (b m st h) (e st) (omega (arith, h))

pair_within : (f : ℕ → Node) (k l : List Node) (a b p : Part) (n n' : ℕ) → Builds k a n → Builds l b n' → ((st : List Part) → step (f (length l)) (b ∷ a ∷ st) ≡ Some (p ∷ st)) → Builds (join_by f k l) p (max n (suc n'))
unfolding Builds
pair_within f k l a b p n n' i j e m st h =
    within_append m (k ++ l) (f (length l) ∷ []) (Some st) ∙ last_within m (f (length l)) (run_within m (k ++ l) (Some st)) (b ∷ a ∷ st) (p ∷ st)
    (within_append m k l (Some st) ∙ ap (run_within m l) (i m st (omega (arith, h))) ∙ j m (a ∷ st) (omega (arith, h))) (e st) (omega (arith, h))

-- What joins two has the second's count.
counted : (l : List Node) (p : Part) (st : List Part) → (sized (length l) l p >>= λ k. Some (k ∷ st)) ≡ Some (p ∷ st)
counted l p st = rw (eq-eqb (length l) (length l) refl)

categories_within : (c : Categories) → Builds (tree_categories c) (Part.query (Query.category c)) (height_categories c)
unfolding tree_categories height_categories bar_parts bar_categories
categories_within (Categories.one x) = leaf_within _ _ (λ st. refl)
categories_within (Categories.either a b) = pair_within Node.bar (tree_categories a) (tree_categories b) _ _ _ _ _ (categories_within a) (categories_within b) (counted (tree_categories b) _)

identifiers_within : (i : Identifiers) → Builds (tree_identifiers i) (Part.query (Query.identifier i)) (height_identifiers i)
unfolding tree_identifiers height_identifiers bar_parts bar_identifiers
identifiers_within (Identifiers.namespace n) = leaf_within _ _ (λ st. refl)
identifiers_within (Identifiers.reference c r) = leaf_within _ _ (λ st. refl)
identifiers_within (Identifiers.either a b) = pair_within Node.bar (tree_identifiers a) (tree_identifiers b) _ _ _ _ _ (identifiers_within a) (identifiers_within b) (counted (tree_identifiers b) _)

chain_within : (p : Chain) (a : Alternatives) → Builds (tree_in a) (Part.alternatives a) (height_in a) → Builds (tree_chain p (tree_in a)) (Part.query (Query.property p a)) (height_in a)
unfolding tree_chain link_part property_part
chain_within (single x) a h = one_within (tree_in a) (Node.property x) _ _ (height_in a) (some_in a) h (λ st. refl)
chain_within (chain x p) a h = one_within (tree_chain p (tree_in a)) (Node.link x) _ _ (height_in a) (some_in a) (chain_within p a h) (λ st. refl)

mutual
  unfolding tree height bar_parts bar_alternatives join_parts subquery_part

  in_within : (a : Alternatives) → Builds (tree_in a) (Part.alternatives a) (height_in a)
  in_within Alternatives.existence = leaf_within _ _ (λ st. refl)
  in_within (Alternatives.value c v) = leaf_within _ _ (λ st. refl)
  in_within (Alternatives.subquery q) = one_within (tree q) Node.subquery _ _ (height q) (some_of q) (query_within_lem q) (λ st. refl)
  in_within (Alternatives.either a b) = pair_within Node.bar (tree_in a) (tree_in b) _ _ _ _ _ (in_within a) (in_within b) (counted (tree_in b) _)

  pub query_within_lem : (q : Query) → Builds (tree q) (Part.query q) (height q)
  query_within_lem (Query.category c) = categories_within c
  query_within_lem (Query.identifier i) = identifiers_within i
  query_within_lem (Query.property p a) = chain_within p a (in_within a)
  query_within_lem (Query.disjunction a b) = pair_within Node.or (tree a) (tree b) _ _ _ _ _ (query_within_lem a) (query_within_lem b) (counted (tree b) _)
  query_within_lem (Query.conjunction a b) = pair_within Node.and (tree a) (tree b) _ _ _ _ _ (query_within_lem a) (query_within_lem b) (counted (tree b) _)
