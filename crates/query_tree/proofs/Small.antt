-- The nodes of an accepted text's tree have numbers that their bytes can hold.
use Prim.Native.Nat.{ℕ, ◌≤◌}
use mathlib.Core.Path.{◌≡◌, refl, ◌∙◌}
use mathlib.Core.Bool.{Bool, true, false, ◌&&◌, ◌||◌, false≢true}
use mathlib.Core.List.{List, [], ◌∷◌, ◌++◌}
use native.Mathlib.Omega.{arith}
use lib.Dec.{leb, eqb}
use lib.ListN.{length, length-append}
use borrow.Author.Tests.{le-leb, eqb-true}
use Rattle.text.specs.Bytes.{Bytes, all}
use Rattle.text.proofs.Laws.{all_append}
use Rattle.names.specs.Names.{is_composed_name, is_composed_property_name, is_composed_namespace}
use Rattle.names.proofs.Composed.{composed_named, property_composed}
use Rattle.values.specs.Names.{Reference, bare, qualified, is_composed_reference, is_value}
use Rattle.language.specs.Surface.{Chain, single, chain, Categories, Identifiers, Alternatives, Query}
use Rattle.language.proofs.Members.{and_true, both_true}
use Rattle.query_tree_spelling.specs.Spelled.{is_one_category, is_one_identifier, is_one_alternative, spelled_categories, spelled_identifiers, spelled_value, spelled_names, spelled_chain, spelled_in, is_spelled}
use Rattle.query_tree.specs.Nodes.{Node, join_by, tree_categories, tree_identifiers, tree_chain, tree_in, tree}
use Rattle.query_tree.proofs.Items.{joined_count}

-- At most 64 bytes, and at most 681 nodes.
unfoldable pub is_short : Bytes → Bool
is_short x = leb (length x) 64

abbrev pub short_reference : Reference → Bool
short_reference (bare x) = is_short x
short_reference (qualified n x) = is_short n && is_short x

abbrev pub is_small : Node → Bool
is_small (Node.and n) = leb n 681
is_small (Node.or n) = leb n 681
is_small (Node.bar n) = leb n 681
is_small (Node.category x) = is_short x
is_small (Node.namespace n) = is_short n
is_small (Node.reference c r) = short_reference r
is_small Node.existence = true
is_small (Node.value c v) = is_short v
is_small Node.subquery = true
is_small (Node.property x) = is_short x
is_small (Node.link x) = is_short x

-- Names and values are short.
front_true : (a b : Bool) → a && b ≡ true → a ≡ true
front_true a b h = (and_true a b h).0

short_name : (x : Bytes) → is_composed_name x ≡ true → is_short x ≡ true
unfolding is_short
short_name x h = le-leb (length x) 64 (composed_named x h).short

short_value : (x : Bytes) → is_value x ≡ true → is_short x ≡ true
unfolding is_value is_short
short_value x h = (and_true (leb 1 (length x)) (leb (length x) 64) (front_true _ _ (front_true _ _ (front_true _ _ (front_true _ _ h))))).1

short_namespace : (x : Bytes) → is_composed_namespace x ≡ true → is_short x ≡ true
unfolding is_composed_namespace is_short
short_namespace x h = go (eqb (length x) 0) (is_composed_name x) refl refl h
  where
    go : (a b : Bool) → eqb (length x) 0 ≡ a → is_composed_name x ≡ b → a || b ≡ true → leb (length x) 64 ≡ true
    go true b e f k = le-leb (length x) 64 (omega (arith, eqb-true (length x) 0 e))
    go false true e f k = short_name x f
    go false false e f k = absurd (false≢true k)

short_property : (x : Bytes) → is_composed_property_name x ≡ true → is_short x ≡ true
short_property x h = short_name x (property_composed x h)

-- Lists of small nodes.
unfoldable pub AllSmall : List Node → Type 0
AllSmall l = all is_small l ≡ true

behind_small : (l : List Node) (x : Node) → AllSmall l → is_small x ≡ true → AllSmall (l ++ (x ∷ []))
unfolding AllSmall all
behind_small l x h k = all_append is_small l (x ∷ []) ∙ both_true h (both_true k refl)

one_small : (x : Node) → is_small x ≡ true → AllSmall (x ∷ [])
unfolding AllSmall all
one_small x h = both_true h refl

joined_small : (f : ℕ → Node) (k l : List Node) → (is_small (f (length l)) ≡ leb (length l) 681) → length (join_by f k l) ≤ 681 → (length k ≤ 681 → AllSmall k) → (length l ≤ 681 → AllSmall l) → AllSmall (join_by f k l)
unfolding AllSmall
joined_small f k l e b h j =
    let n = joined_count f k l in
    behind_small (k ++ l) (f (length l)) (all_append is_small k l ∙ both_true (h (omega (arith, n, b))) (j (omega (arith, n, b)))) (e ∙ le-leb (length l) 681 (omega (arith, n, b)))

categories_small : (c : Categories) → spelled_categories c ≡ true → length (tree_categories c) ≤ 681 → AllSmall (tree_categories c)
unfolding tree_categories spelled_categories
categories_small (Categories.one x) h b = one_small (Node.category x) (short_name x h)
categories_small (Categories.either a c) h b =
    let k = and_true (spelled_categories a) (is_one_category c && spelled_categories c) h in
    joined_small Node.bar (tree_categories a) (tree_categories c) refl b (categories_small a k.0) (categories_small c (and_true (is_one_category c) (spelled_categories c) k.1).1)

reference_small : (r : Reference) → is_composed_reference r ≡ true → short_reference r ≡ true
reference_small (bare x) h = short_name x h
reference_small (qualified n x) h = let k = and_true (is_composed_namespace n) (is_composed_name x) h in both_true (short_namespace n k.0) (short_name x k.1)

identifiers_small : (i : Identifiers) → spelled_identifiers i ≡ true → length (tree_identifiers i) ≤ 681 → AllSmall (tree_identifiers i)
unfolding tree_identifiers spelled_identifiers
identifiers_small (Identifiers.namespace n) h b = one_small (Node.namespace n) (short_namespace n h)
identifiers_small (Identifiers.reference c r) h b = one_small (Node.reference c r) (reference_small r h)
identifiers_small (Identifiers.either a c) h b =
    let k = and_true (spelled_identifiers a) (is_one_identifier c && spelled_identifiers c) h in
    joined_small Node.bar (tree_identifiers a) (tree_identifiers c) refl b (identifiers_small a k.0) (identifiers_small c (and_true (is_one_identifier c) (spelled_identifiers c) k.1).1)

chain_small : (p : Chain) (l : List Node) → spelled_names p ≡ true → AllSmall l → AllSmall (tree_chain p l)
unfolding tree_chain spelled_names
chain_small (single x) l h k = behind_small l (Node.property x) k (short_property x h)
chain_small (chain x p) l h k =
    let e = and_true (is_composed_property_name x) (spelled_names p) h in
    behind_small (tree_chain p l) (Node.link x) (chain_small p l e.1 k) (short_property x e.0)

-- How many nodes the alternatives of a chain have.
chain_more : (p : Chain) (l : List Node) → length l ≤ length (tree_chain p l)
unfolding tree_chain
chain_more (single x) l = omega (arith, length-append l (Node.property x ∷ []))
chain_more (chain x p) l = omega (arith, chain_more p l, length-append (tree_chain p l) (Node.link x ∷ []))

mutual
  unfolding tree is_spelled spelled_value spelled_chain

  in_small : (a : Alternatives) → spelled_in a ≡ true → length (tree_in a) ≤ 681 → AllSmall (tree_in a)
  in_small Alternatives.existence h b = one_small Node.existence refl
  in_small (Alternatives.value c v) h b = one_small (Node.value c v) (short_value v (front_true _ _ h))
  in_small (Alternatives.subquery q) h b = behind_small (tree q) Node.subquery (spelled_small q h (omega (arith, b, length-append (tree q) (Node.subquery ∷ [])))) refl
  in_small (Alternatives.either a c) h b =
      let k = and_true (spelled_in a) (is_one_alternative c && spelled_in c) h in
      joined_small Node.bar (tree_in a) (tree_in c) refl b (in_small a k.0) (in_small c (and_true (is_one_alternative c) (spelled_in c) k.1).1)

  pub spelled_small : (q : Query) → is_spelled q ≡ true → length (tree q) ≤ 681 → AllSmall (tree q)
  spelled_small (Query.category c) h b = categories_small c h b
  spelled_small (Query.identifier i) h b = identifiers_small i (front_true _ _ h) b
  spelled_small (Query.property p a) h b =
      let k = and_true (spelled_chain p) (spelled_in a) h in
      chain_small p (tree_in a) (front_true _ _ k.0) (in_small a k.1 (omega (arith, b, chain_more p (tree_in a))))
  spelled_small (Query.disjunction a c) h b =
      let k = and_true (is_spelled a) (is_spelled c) h in
      joined_small Node.or (tree a) (tree c) refl b (spelled_small a k.0) (spelled_small c k.1)
  spelled_small (Query.conjunction a c) h b =
      let k = and_true (is_spelled a) (is_spelled c) h in
      joined_small Node.and (tree a) (tree c) refl b (spelled_small a k.0) (spelled_small c k.1)
