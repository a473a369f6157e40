-- The names and string constants of a core query that keeps its rules have room in the heap.
use Prim.Native.Nat.{ℕ, suc, ◌+◌, ◌*◌, ◌≤◌}
use mathlib.Core.Path.{◌≡◌, refl, sym, ap, ◌∙◌}
use mathlib.Core.Bool.{Bool, true, false, ◌&&◌, ◌||◌}
use mathlib.Core.List.{List, [], ◌∷◌, ◌++◌}
use native.Mathlib.Omega.{arith}
use lib.Dec.{leb, eqb}
use lib.ListN.{length, length-append}
use borrow.Author.Tests.{eqb-true, leb-true}
use Rattle.text.specs.Bytes.{Bytes, all}
use Rattle.text.proofs.Laws.{all_append}
use Rattle.names.specs.Names.{is_composed_name, is_composed_namespace, is_composed_property_name}
use Rattle.values.specs.Names.{Reference, bare, qualified, is_composed_reference}
use Rattle.values.specs.Values.{scalar, string, Constant}
use Rattle.names.proofs.Composed.{composed_named}
use Rattle.values.proofs.Spelled.{value_short}
use Rattle.language.specs.References.{article_meant}
use Rattle.language.specs.Core.{Selector, Core, nodes, nodes_in}
use Rattle.language.proofs.Members.{and_true}
use Rattle.query_core.specs.Postfix.{Node, post, post_in}
use Rattle.query_core.specs.Form.{constant_string, namespace_string, string_of, strings, is_constant, is_node, is_core}
use Rattle.query_core.specs.Writing.{Fits}
use Rattle.query_core.proofs.Postfix.{length_post}
use Rattle.query_core.proofs.Laying.{strings_append}

-- Names and string constants have at most 64 bytes.
pub property_short : (x : Bytes) → is_composed_property_name x ≡ true → length x ≤ 64
unfolding is_composed_property_name
property_short x h = (composed_named x (and_true (is_composed_name x) _ h).0).short

pub namespace_short : (x : Bytes) → is_composed_namespace x ≡ true → length x ≤ 64
unfolding is_composed_namespace
namespace_short x h = go (eqb (length x) 0) refl h
  where
    go : (b : Bool) → eqb (length x) 0 ≡ b → b || is_composed_name x ≡ true → length x ≤ 64
    go true e k = omega (arith, eqb-true (length x) 0 e)
    go false e k = (composed_named x k).short

pub constant_short : (v : Constant) → is_constant v ≡ true → length (constant_string v) ≤ 64
constant_short (scalar k n) h = omega arith
constant_short (string s) h = value_short s h

pub reference_short : (r : Reference) → is_composed_reference r ≡ true → (length (namespace_string r) ≤ 64) × (length (article_meant r) ≤ 64)
reference_short (bare x) h = (omega arith, (composed_named x h).short)
reference_short (qualified n x) h =
    let k = and_true (is_composed_namespace n) (is_composed_name x) h in
    (namespace_short n k.0, (composed_named x k.1).short)

strings_count : (k l : List Node) → length (strings (k ++ l)) ≡ length (strings k) + length (strings l)
strings_count k l = ap length (strings_append k l) ∙ length-append (strings k) (strings l)

one_string : (x : Node) → length (strings (x ∷ [])) ≡ length (string_of x)
unfolding strings
one_string x = omega (arith, length-append (string_of x) [])

-- All nodes of a list and one more keep their rules.
one_keeps : (x : Node) → all is_node (x ∷ []) ≡ true → is_node x ≡ true
unfolding all
one_keeps x h = (and_true (is_node x) true h).0

both_keep : (k l : List Node) → all is_node (k ++ l) ≡ true → (all is_node k ≡ true) × (all is_node l ≡ true)
both_keep k l h = and_true (all is_node k) (all is_node l) (sym (all_append is_node k l) ∙ h)

joined_few : (k l : List Node) (x : Node) (n m : ℕ) → length (string_of x) ≡ 0
    → (all is_node k ≡ true → length (strings k) ≤ 96 * (n + 1))
    → (all is_node l ≡ true → length (strings l) ≤ 96 * (m + 1))
    → all is_node (k ++ l ++ (x ∷ [])) ≡ true
    → length (strings (k ++ l ++ (x ∷ []))) ≤ 96 * (suc (n + m) + 1)
joined_few k l x n m e f g h =
    let a = both_keep (k ++ l) (x ∷ []) h in
    let b = both_keep k l a.0 in
    omega (arith, strings_count (k ++ l) (x ∷ []), strings_count k l, one_string x, e, f b.0, g b.1)

mutual
  unfolding post nodes string_of is_node

  few_in : (s : Selector) → all is_node (post_in s) ≡ true → length (strings (post_in s)) ≤ 96 * (nodes_in s + 1)
  few_in (Selector.category x) h = omega (arith, one_string (Node.category x), (composed_named x (one_keeps (Node.category x) h)).short)
  few_in (Selector.namespace x) h = omega (arith, one_string (Node.namespace x), namespace_short x (one_keeps (Node.namespace x) h))
  few_in (Selector.existence x) h = omega (arith, one_string (Node.existence x), property_short x (one_keeps (Node.existence x) h))
  few_in (Selector.subquery x q) h =
      let k = both_keep (post q) (Node.subquery x ∷ []) h in
      omega (arith, strings_count (post q) (Node.subquery x ∷ []), one_string (Node.subquery x), property_short x (one_keeps (Node.subquery x) k.1), few_strings q k.0)
  few_in (Selector.article c x) h = omega (arith, one_string (Node.article c x), (composed_named x (one_keeps (Node.article c x) h)).short)
  few_in (Selector.value x c v) h =
      let k = and_true (is_composed_property_name x) (is_constant v) (one_keeps (Node.value x c v) h) in
      omega (arith, one_string (Node.value x c v), length-append x (constant_string v), property_short x k.0, constant_short v k.1)
  few_in (Selector.link x c r) h =
      let k = and_true (is_composed_property_name x) (is_composed_reference r) (one_keeps (Node.link x c r) h) in
      let j = reference_short r k.1 in
      omega (arith, one_string (Node.link x c r), length-append (x ++ namespace_string r) (article_meant r), length-append x (namespace_string r), property_short x k.0, j.0, j.1)

  pub few_strings : (q : Core) → all is_node (post q) ≡ true → length (strings (post q)) ≤ 96 * (nodes q + 1)
  few_strings (Core.select s) h = few_in s h
  few_strings (Core.disjunction a b) h = joined_few (post a) (post b) Node.disjunction (nodes a) (nodes b) refl (few_strings a) (few_strings b) h
  few_strings (Core.conjunction a b) h = joined_few (post a) (post b) Node.conjunction (nodes a) (nodes b) refl (few_strings a) (few_strings b) h

-- What a core query that keeps its rules is made of.
pub record Kept (c : Core) : Type 0 where
  pub some_node : 1 ≤ nodes c
  pub few : nodes c ≤ 256
  pub rules : all is_node (post c) ≡ true
  pub fits : Fits (post c)

pub core_kept : (c : Core) → is_core c ≡ true → Kept c
unfolding is_core
core_kept c h =
    let a = and_true (leb 1 (nodes c) && leb (nodes c) 256) (all is_node (post c)) h in
    let b = and_true (leb 1 (nodes c)) (leb (nodes c) 256) a.0 in
    let n = leb-true (nodes c) 256 b.1 in
    record {
      some_node = leb-true 1 (nodes c) b.0;
      few = n;
      rules = a.1;
      fits = (omega (arith, n, length_post c), omega (arith, n, few_strings c a.1));
    }
