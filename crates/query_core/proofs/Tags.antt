-- What the tag of a node tells of it.
use Rattle.std.specs.Prelude.{Option}
use Prim.Native.Nat.{ℕ, zero, suc}
use mathlib.Core.Path.{◌≡◌, refl, ap, subst, ◌∙◌}
use mathlib.Core.Bool.{Bool, ◌&&◌, ◌||◌}
use lib.Dec.{eqb}
use Rattle.text.specs.Bytes.{Bytes}
use borrow.Author.Tests.{eqb-true}
use Rattle.names.specs.Names.{is_composed_property_name}
use Rattle.values.specs.Names.{Reference, is_composed_reference}
use Rattle.values.specs.Values.{Constant}
use Rattle.language.proofs.Options.{OnSome, on_bind}
use Rattle.query_core.specs.declared.Slot.{Slot}
use Rattle.query_core.specs.Postfix.{Node}
use Rattle.query_core.specs.Held.{node_from, surface_from, link_from, link_by, node_of, node_in, slot_in, heap_in}
use Rattle.query_core.specs.Reading.{expects_kind, TestsNode}
use Rattle.query_core.proofs.Nodewise.{on_cond, on_only, on_any, on_node}

abbrev tag_of : Node → ℕ
tag_of Node.conjunction = 0
tag_of Node.disjunction = 1
tag_of (Node.category x) = 2
tag_of (Node.namespace x) = 3
tag_of (Node.existence x) = 4
tag_of (Node.subquery x) = 5
tag_of (Node.article c x) = 6
tag_of (Node.value x c v) = 7
tag_of (Node.link x c r) = 8

-- the node, where there is one, has the tag
abbrev Any : Constant → Type 0
Any v = Unit {0}

tagged : (tag c : ℕ) (v : Option Constant) (x y : Bytes) → OnSome (λ m. tag ≡ tag_of m) (node_from tag c v x y)
tagged tag c v x y =
    on_node (λ m. tag ≡ tag_of m) Any tag c v x y (on_any Any v (λ w. tt)) (λ e. e) (λ e. e) (λ e h. e) (λ e h. e) (λ e h. e) (λ e h. e) (λ e h d. e) (λ e h d w u. e)

link_tagged : (c : ℕ) (x : Bytes) (r : Reference) → OnSome (λ m. 8 ≡ tag_of m) (link_from c x r)
unfolding link_from
link_tagged c x r = on_only (λ m. 8 ≡ tag_of m) (is_composed_property_name x && is_composed_reference r) _ (λ h. on_bind (λ d. Unit {0}) (λ m. 8 ≡ tag_of m) (surface_from c) _ (on_any (λ d. Unit {0}) (surface_from c) (λ d. tt)) (λ d u. refl))

node_tagged : (s : Bytes) (tag : ℕ) (x : Slot) → OnSome (λ m. tag ≡ tag_of m) (node_of s tag x)
unfolding node_of link_by
node_tagged s tag x = on_cond (λ m. tag ≡ tag_of m) (eqb tag 8) _ _ (λ e. rw (eqb-true tag 8 e) (link x.kind)) (tagged tag _ _ _ _)
  where
    link : (k : ℕ) → OnSome (λ m. 8 ≡ tag_of m) (link_by s k x)
    link zero = link_tagged _ _ _
    link (suc n) = link_tagged _ _ _

-- what is tested of the tag is told of the node
tag_tells : (f : Node → Bool) (test : ℕ → Bool) → ((m : Node) → test (tag_of m) ≡ f m) → (h : Bytes) (i : ℕ) (r : Bool) → r ≡ test (slot_in h i).tag → TestsNode f (node_in h i) r
unfolding TestsNode node_in
tag_tells f test same h i r e m g = e ∙ ap test (subst (OnSome (λ n. (slot_in h i).tag ≡ tag_of n)) g (node_tagged (heap_in h) (slot_in h i).tag (slot_in h i))) ∙ same m

pub tag_expects : (h : Bytes) (i t : ℕ) → t ≡ (slot_in h i).tag → TestsNode expects_kind (node_in h i) (eqb t 5 || eqb t 7 || eqb t 8)
tag_expects h i t e = tag_tells expects_kind (λ n. eqb n 5 || eqb n 7 || eqb n 8) same h i (eqb t 5 || eqb t 7 || eqb t 8) (rw e)
  where
    same : (m : Node) → (eqb (tag_of m) 5 || eqb (tag_of m) 7 || eqb (tag_of m) 8) ≡ expects_kind m
    same Node.conjunction = refl
    same Node.disjunction = refl
    same (Node.category x) = refl
    same (Node.namespace x) = refl
    same (Node.existence x) = refl
    same (Node.subquery x) = refl
    same (Node.article c x) = refl
    same (Node.value x c v) = refl
    same (Node.link x c r) = refl
