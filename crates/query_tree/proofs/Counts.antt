-- A tree of an accepted text has at most 681 nodes, and at most 1,024 bytes of names and values.
use Prim.Native.Nat.{ℕ, ◌+◌, ◌*◌, ◌≤◌}
use mathlib.Core.Path.{◌≡◌, refl, sym, ap, ◌∙◌}
use mathlib.Core.Bool.{Bool, true, false, ◌&&◌, false≢true}
use mathlib.Core.List.{List, [], ◌∷◌, ◌++◌, append_assoc}
use native.Mathlib.Omega.{arith}
use lib.Dec.{leb}
use lib.ListN.{length, length-append}
use borrow.Author.Tests.{leb-true}
use Rattle.text.specs.Bytes.{Bytes, all}
use Rattle.names.specs.Names.{is_composed_name, is_composed_property_name}
use Rattle.names.proofs.Composed.{composed_named, property_composed}
use Rattle.values.specs.Names.{Reference, bare, qualified, is_composed_reference, is_value}
use Rattle.language.specs.Surface.{Chain, single, chain, Categories, Identifiers, Alternatives, Query}
use Rattle.language.specs.QueryText.{names_in}
use Rattle.language.proofs.Members.{and_true}
use Rattle.language.specs.declared.SurfaceComparator.{SurfaceComparator}
use Rattle.query_tree_spelling.specs.Spelled.{is_one_category, is_one_identifier, is_one_alternative, is_disjunction, is_joined, spelled_categories, spelled_identifiers, spelled_value, spelled_names, spelled_chain, spelled_in, is_spelled, cost_categories, cost_reference, cost_identifiers, cost_chain, wrapped, cost_in, cost, deep, has_text}
use Rattle.query_tree.specs.Nodes.{Node, join_by, tree_categories, tree_identifiers, tree_chain, tree_in, tree, string_of, strings}
use Rattle.query_tree.proofs.Items.{joined_count}

-- Names and values have bytes.
some_name : (x : Bytes) → is_composed_name x ≡ true → 1 ≤ length x
some_name x h = (composed_named x h).filled

some_value : (c : SurfaceComparator) (v : Bytes) → spelled_value c v ≡ true → 1 ≤ length v
unfolding spelled_value is_value all
some_value c [] h = absurd (false≢true h)
some_value c (b ∷ v) h = omega arith

some_reference : (r : Reference) → is_composed_reference r ≡ true → 1 ≤ cost_reference r
unfolding cost_reference
some_reference (bare x) h = some_name x h
some_reference (qualified n x) h = omega arith

categories_few : (c : Categories) → spelled_categories c ≡ true → 3 * length (tree_categories c) ≤ 2 * cost_categories c + 1
unfolding tree_categories cost_categories spelled_categories
categories_few (Categories.one x) h = omega (arith, some_name x h)
categories_few (Categories.either a b) h =
    let k = and_true (spelled_categories a) (is_one_category b && spelled_categories b) h in
    omega (arith, joined_count Node.bar (tree_categories a) (tree_categories b), categories_few a k.0, categories_few b (and_true (is_one_category b) (spelled_categories b) k.1).1)

identifiers_few : (i : Identifiers) → spelled_identifiers i ≡ true → 3 * length (tree_identifiers i) ≤ 2 * cost_identifiers i + 1
unfolding tree_identifiers cost_identifiers spelled_identifiers
identifiers_few (Identifiers.namespace n) h = omega arith
identifiers_few (Identifiers.reference c r) h = omega (arith, some_reference r h)
identifiers_few (Identifiers.either a b) h =
    let k = and_true (spelled_identifiers a) (is_one_identifier b && spelled_identifiers b) h in
    omega (arith, joined_count Node.bar (tree_identifiers a) (tree_identifiers b), identifiers_few a k.0, identifiers_few b (and_true (is_one_identifier b) (spelled_identifiers b) k.1).1)

chain_few : (p : Chain) (l : List Node) (n : ℕ) → spelled_names p ≡ true → 3 * length l ≤ n → 3 * length (tree_chain p l) ≤ n + 2 * cost_chain p + 3
unfolding tree_chain cost_chain spelled_names
chain_few (single x) l n h k = omega (arith, k, length-append l (Node.property x ∷ []))
chain_few (chain x p) l n h k =
    let e = and_true (is_composed_property_name x) (spelled_names p) h in
    omega (arith, length-append (tree_chain p l) (Node.link x ∷ []), chain_few p l n e.1 k, some_name x (property_composed x e.0))

more : (t : Bool) (n : ℕ) → n ≤ wrapped t n
more true n = omega arith
more false n = omega arith

mutual
  unfolding tree cost is_spelled spelled_chain

  in_few : (a : Alternatives) → spelled_in a ≡ true → 3 * length (tree_in a) ≤ 2 * cost_in a + 1
  in_few Alternatives.existence h = omega arith
  in_few (Alternatives.value c v) h = omega (arith, some_value c v h)
  in_few (Alternatives.subquery q) h = omega (arith, length-append (tree q) (Node.subquery ∷ []), few q h)
  in_few (Alternatives.either a b) h =
      let k = and_true (spelled_in a) (is_one_alternative b && spelled_in b) h in
      omega (arith, joined_count Node.bar (tree_in a) (tree_in b), in_few a k.0, in_few b (and_true (is_one_alternative b) (spelled_in b) k.1).1)

  pub few : (q : Query) → is_spelled q ≡ true → 3 * length (tree q) + 3 ≤ 2 * cost q
  few (Query.category c) h = omega (arith, categories_few c h)
  few (Query.identifier i) h = omega (arith, identifiers_few i (and_true (spelled_identifiers i) _ h).0)
  few (Query.property p a) h =
      let k = and_true (spelled_chain p) (spelled_in a) h in
      let n = (and_true (spelled_names p) (leb (names_in p) 8) k.0).0 in
      omega (arith, chain_few p (tree_in a) (2 * cost_in a + 1) n (in_few a k.1))
  few (Query.disjunction a b) h =
      let k = and_true (is_spelled a) (is_spelled b) h in
      omega (arith, joined_count Node.or (tree a) (tree b), few a k.0, few b k.1, more (is_disjunction b) (cost b))
  few (Query.conjunction a b) h =
      let k = and_true (is_spelled a) (is_spelled b) h in
      omega (arith, joined_count Node.and (tree a) (tree b), few a k.0, few b k.1, more (is_disjunction a) (cost a), more (is_joined b) (cost b))

pub few_nodes : (q : Query) → has_text q ≡ true → length (tree q) ≤ 681
unfolding has_text
few_nodes q h =
    let k = and_true (is_spelled q) (leb (cost q) 1024 && leb (deep q) 8) h in
    omega (arith, few q k.0, leb-true (cost q) 1024 (and_true (leb (cost q) 1024) (leb (deep q) 8) k.1).0)

-- The bytes of names and values: no more than the shortest spelling has.
pub strings_append : (k l : List Node) → strings (k ++ l) ≡ strings k ++ strings l
unfolding strings
strings_append [] l = refl
strings_append (x ∷ k) l = ap (λ (r : Bytes). string_of x ++ r) (strings_append k l) ∙ sym (append_assoc (string_of x) (strings k) (strings l))

strings_count : (k l : List Node) → length (strings (k ++ l)) ≡ length (strings k) + length (strings l)
strings_count k l = ap length (strings_append k l) ∙ length-append (strings k) (strings l)

behind_strings : (l : List Node) (x : Node) → length (strings (l ++ (x ∷ []))) ≡ length (strings l) + length (string_of x)
unfolding strings
behind_strings l x = omega (arith, strings_count l (x ∷ []), length-append (string_of x) [])

joined_strings_lem : (f : ℕ → Node) (k l : List Node) → string_of (f (length l)) ≡ [] → length (strings (join_by f k l)) ≡ length (strings k) + length (strings l)
joined_strings_lem f k l e = omega (arith, behind_strings (k ++ l) (f (length l)), ap length e, strings_count k l)

one_string : (x : Node) → length (strings (x ∷ [])) ≡ length (string_of x)
unfolding strings
one_string x = omega (arith, length-append (string_of x) [])

categories_short : (c : Categories) → length (strings (tree_categories c)) ≤ cost_categories c
unfolding tree_categories cost_categories string_of
categories_short (Categories.one x) = omega (arith, one_string (Node.category x))
categories_short (Categories.either a b) = omega (arith, joined_strings_lem Node.bar (tree_categories a) (tree_categories b) refl, categories_short a, categories_short b)

identifiers_short : (i : Identifiers) → length (strings (tree_identifiers i)) ≤ cost_identifiers i
unfolding tree_identifiers cost_identifiers cost_reference string_of
identifiers_short (Identifiers.namespace n) = omega (arith, one_string (Node.namespace n))
identifiers_short (Identifiers.reference c (bare x)) = omega (arith, one_string (Node.reference c (bare x)))
identifiers_short (Identifiers.reference c (qualified n x)) = omega (arith, one_string (Node.reference c (qualified n x)), length-append n x)
identifiers_short (Identifiers.either a b) = omega (arith, joined_strings_lem Node.bar (tree_identifiers a) (tree_identifiers b) refl, identifiers_short a, identifiers_short b)

chain_short : (p : Chain) (l : List Node) → length (strings (tree_chain p l)) ≤ length (strings l) + cost_chain p
unfolding tree_chain cost_chain string_of
chain_short (single x) l = omega (arith, behind_strings l (Node.property x))
chain_short (chain x p) l = omega (arith, behind_strings (tree_chain p l) (Node.link x), chain_short p l)

mutual
  unfolding tree cost string_of

  in_short : (a : Alternatives) → length (strings (tree_in a)) ≤ cost_in a
  in_short Alternatives.existence = omega (arith, one_string Node.existence)
  in_short (Alternatives.value c v) = omega (arith, one_string (Node.value c v))
  in_short (Alternatives.subquery q) = omega (arith, behind_strings (tree q) Node.subquery, short q)
  in_short (Alternatives.either a b) = omega (arith, joined_strings_lem Node.bar (tree_in a) (tree_in b) refl, in_short a, in_short b)

  pub short : (q : Query) → length (strings (tree q)) ≤ cost q
  short (Query.category c) = omega (arith, categories_short c)
  short (Query.identifier i) = omega (arith, identifiers_short i)
  short (Query.property p a) = omega (arith, chain_short p (tree_in a), in_short a)
  short (Query.disjunction a b) = omega (arith, joined_strings_lem Node.or (tree a) (tree b) refl, short a, short b, more (is_disjunction b) (cost b))
  short (Query.conjunction a b) = omega (arith, joined_strings_lem Node.and (tree a) (tree b) refl, short a, short b, more (is_disjunction a) (cost a), more (is_joined b) (cost b))

pub few_strings : (q : Query) → has_text q ≡ true → length (strings (tree q)) ≤ 1024
unfolding has_text
few_strings q h =
    let k = and_true (is_spelled q) (leb (cost q) 1024 && leb (deep q) 8) h in
    omega (arith, short q, leb-true (cost q) 1024 (and_true (leb (cost q) 1024) (leb (deep q) 8) k.1).0)
