-- Names as typed and composed: what is spelled is composed, and what is read is spelled once it is composed.
use Prim.Native.Nat.{suc, ◌≤◌}
use mathlib.Core.Path.{◌≡◌, refl, sym, ap, ap₂, ◌∙◌}
use mathlib.Core.Bool.{Bool, true, false, not, ◌&&◌}
use native.Mathlib.Omega.{arith}
use borrow.Author.Tests.{not-false}
use Rattle.text.specs.Bytes.{Bytes, bytes, same, all}
use Rattle.text.proofs.Laws.{same_eq, same_refl}
use Rattle.names.specs.Names.{composed_name, is_property_name, is_composed_property_name}
use Rattle.names.proofs.Ascii.{is_ascii}
use Rattle.names.proofs.Composed.{composed_le, composed_is_property, property_typed, property_fixed, composed_fixed, namespace_fixed, composed_ascii, ascii_fixed}
use Rattle.values.specs.Names.{Reference, bare, qualified, composed_reference}
use Rattle.values.proofs.Spelled.{reference_fixed}
use Rattle.language.specs.Surface.{Chain, single, chain, Categories, Identifiers, Alternatives, Query, composed_chain, composed_categories, composed_identifiers, composed_in, composed_query}
use Rattle.language.specs.QueryText.{names_in, breaks_names}
use Rattle.language.proofs.Members.{and_true, or_false, both_true}
use Rattle.query_tree_spelling.specs.Spelled.{is_one_category, is_one_identifier, is_one_alternative, spelled_categories, spelled_identifiers, reads_as_category, spelled_names, spelled_chain, spelled_in, is_spelled, cost_reference, cost_chain}

-- Chains.
pub names_typed : (p : Chain) → spelled_names p ≡ true → breaks_names p ≡ false
unfolding spelled_names breaks_names
names_typed (single x) h = rw (property_typed x h)
names_typed (chain x p) h = let k = and_true (is_composed_property_name x) (spelled_names p) h in rw (property_typed x k.0) (names_typed p k.1)

pub names_composed : (p : Chain) → breaks_names p ≡ false → spelled_names (composed_chain p) ≡ true
unfolding spelled_names breaks_names composed_chain
names_composed (single x) h = composed_is_property x (not-false (is_property_name x) h)
names_composed (chain x p) h =
    let k = or_false (not (is_property_name x)) (breaks_names p) h in
    both_true (composed_is_property x (not-false (is_property_name x) k.0)) (names_composed p k.1)

pub names_count : (p : Chain) → names_in (composed_chain p) ≡ names_in p
unfolding names_in composed_chain
names_count (single x) = refl
names_count (chain x p) = ap suc (names_count p)

pub chain_cost : (p : Chain) → cost_chain (composed_chain p) ≤ cost_chain p
unfolding cost_chain composed_chain
chain_cost (single x) = composed_le x
chain_cost (chain x p) = omega (arith, composed_le x, chain_cost p)

chain_fixed : (p : Chain) → spelled_names p ≡ true → composed_chain p ≡ p
unfolding spelled_names composed_chain
chain_fixed (single x) h = ap single (property_fixed x h)
chain_fixed (chain x p) h =
    let k = and_true (is_composed_property_name x) (spelled_names p) h in ap₂ chain (property_fixed x k.0) (chain_fixed p k.1)

pub reference_cost : (r : Reference) → cost_reference (composed_reference r) ≤ cost_reference r
unfolding cost_reference
reference_cost (bare x) = composed_le x
reference_cost (qualified n x) = omega (arith, composed_le n, composed_le x)

-- `Category` is a fixed byte string: nothing else composes to it.
category_ascii : is_ascii (bytes "Category") ≡ true
unfolding all
category_ascii = refl

pub category_kept : (n : Bytes) → same (composed_name n) (bytes "Category") ≡ same n (bytes "Category")
category_kept n = go (same (composed_name n) (bytes "Category")) (same n (bytes "Category")) refl refl
  where
    go : (a b : Bool) → same (composed_name n) (bytes "Category") ≡ a → same n (bytes "Category") ≡ b → a ≡ b
    go true b e f =
        let k = same_eq (composed_name n) (bytes "Category") e in
        let i : composed_name n ≡ n = composed_ascii n (rw k category_ascii) in
        sym e ∙ rw i f
    go false true e f =
        let k = same_eq n (bytes "Category") f in
        sym e ∙ (let z : same (composed_name n) (bytes "Category") ≡ true = rw (k, ascii_fixed (bytes "Category") category_ascii) (same_refl (bytes "Category")) in z)
    go false false e f = refl

-- What is spelled is composed already.
categories_fixed : (c : Categories) → spelled_categories c ≡ true → composed_categories c ≡ c
unfolding spelled_categories composed_categories
categories_fixed (Categories.one x) h = ap Categories.one (composed_fixed x h)
categories_fixed (Categories.either a b) h =
    let k = and_true (spelled_categories a) (is_one_category b && spelled_categories b) h in
    ap₂ Categories.either (categories_fixed a k.0) (categories_fixed b (and_true (is_one_category b) (spelled_categories b) k.1).1)

identifiers_fixed : (i : Identifiers) → spelled_identifiers i ≡ true → composed_identifiers i ≡ i
unfolding spelled_identifiers composed_identifiers
identifiers_fixed (Identifiers.namespace n) h = ap Identifiers.namespace (namespace_fixed n h)
identifiers_fixed (Identifiers.reference c r) h = ap (Identifiers.reference c) (reference_fixed r h)
identifiers_fixed (Identifiers.either a b) h =
    let k = and_true (spelled_identifiers a) (is_one_identifier b && spelled_identifiers b) h in
    ap₂ Identifiers.either (identifiers_fixed a k.0) (identifiers_fixed b (and_true (is_one_identifier b) (spelled_identifiers b) k.1).1)

mutual
  unfolding is_spelled composed_query spelled_chain

  in_fixed : (a : Alternatives) → spelled_in a ≡ true → composed_in a ≡ a
  in_fixed Alternatives.existence h = refl
  in_fixed (Alternatives.value c v) h = refl
  in_fixed (Alternatives.subquery q) h = ap Alternatives.subquery (query_fixed q h)
  in_fixed (Alternatives.either a b) h =
      let k = and_true (spelled_in a) (is_one_alternative b && spelled_in b) h in
      ap₂ Alternatives.either (in_fixed a k.0) (in_fixed b (and_true (is_one_alternative b) (spelled_in b) k.1).1)

  pub query_fixed : (q : Query) → is_spelled q ≡ true → composed_query q ≡ q
  query_fixed (Query.category c) h = ap Query.category (categories_fixed c h)
  query_fixed (Query.identifier i) h = ap Query.identifier (identifiers_fixed i (and_true (spelled_identifiers i) (not (reads_as_category i)) h).0)
  query_fixed (Query.property p a) h =
      let k = and_true (spelled_chain p) (spelled_in a) h in
      ap₂ Query.property (chain_fixed p (and_true (spelled_names p) _ k.0).0) (in_fixed a k.1)
  query_fixed (Query.disjunction a b) h = let k = and_true (is_spelled a) (is_spelled b) h in ap₂ Query.disjunction (query_fixed a k.0) (query_fixed b k.1)
  query_fixed (Query.conjunction a b) h = let k = and_true (is_spelled a) (is_spelled b) h in ap₂ Query.conjunction (query_fixed a k.0) (query_fixed b k.1)
