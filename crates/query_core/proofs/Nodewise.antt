-- What holds of the node of a slot, tag by tag.
use Rattle.std.specs.Prelude.{Option, Some, None}
use Prim.Native.Nat.{ℕ}
use mathlib.Core.Path.{◌≡◌, refl}
use mathlib.Core.Bool.{Bool, true, false, cond}
use borrow.Author.Tests.{eqb-true}
use lib.Dec.{eqb}
use Rattle.text.specs.Bytes.{Bytes}
use Rattle.names.specs.Names.{is_composed_name, is_composed_property_name, is_composed_namespace}
use Rattle.values.specs.Values.{Constant}
use Rattle.language.specs.Answer.{◌>>=◌, only_if}
use Rattle.language.specs.declared.Comparator.{Comparator}
use Rattle.language.proofs.Options.{OnSome, on_bind}
use Rattle.query_core.specs.Postfix.{Node}
use Rattle.query_core.specs.Held.{comparator_from, node_from}

-- Of an answer that is chosen, or tested, or any.
module _ {A : Type 0} (P : A → Type 0) where
  pub on_cond : (b : Bool) (o p : Option A) → (b ≡ true → OnSome P o) → OnSome P p → OnSome P (cond b o p)
  on_cond true o p h k = h refl
  on_cond false o p h k = k

  pub on_only : (b : Bool) (o : Option A) → (b ≡ true → OnSome P o) → OnSome P (only_if b o)
  on_only true o h = h refl
  on_only false o h = tt

  pub on_any : (o : Option A) → ((a : A) → P a) → OnSome P o
  on_any None h = tt
  on_any (Some a) h = h a

-- Of a node, where it holds of each node that keeps its rule and has its tag; Q holds of the constant.
module _ (P : Node → Type 0) (Q : Constant → Type 0) (tag c : ℕ) (v : Option Constant) (x y : Bytes) (constant : OnSome Q v) where
  tag_is : (k : ℕ) (o p : Option Node) → (tag ≡ k → OnSome P o) → OnSome P p → OnSome P (cond (eqb tag k) o p)
  tag_is k o p h = on_cond P (eqb tag k) o p (λ e. h (eqb-true tag k e))

  abbrev Known : Comparator → Type 0
  Known d = Unit {0}

  compared : (f : Comparator → Option Node) → ((d : Comparator) → OnSome P (f d)) → OnSome P (comparator_from c >>= f)
  compared f h = on_bind Known P (comparator_from c) f (on_any Known (comparator_from c) (λ d. tt)) (λ d u. h d)

  pub on_node : (tag ≡ 0 → P Node.conjunction)
      → (tag ≡ 1 → P Node.disjunction)
      → (tag ≡ 2 → is_composed_name x ≡ true → P (Node.category x))
      → (tag ≡ 3 → is_composed_namespace x ≡ true → P (Node.namespace x))
      → (tag ≡ 4 → is_composed_property_name x ≡ true → P (Node.existence x))
      → (tag ≡ 5 → is_composed_property_name x ≡ true → P (Node.subquery x))
      → (tag ≡ 6 → is_composed_name y ≡ true → (d : Comparator) → P (Node.article d y))
      → (tag ≡ 7 → is_composed_property_name x ≡ true → (d : Comparator) (w : Constant) → Q w → P (Node.value x d w))
      → OnSome P (node_from tag c v x y)
  unfolding node_from
  on_node p0 p1 p2 p3 p4 p5 p6 p7 =
      tag_is 0 (Some Node.conjunction) _ p0
      (tag_is 1 (Some Node.disjunction) _ p1
      (tag_is 2 _ _ (λ e. on_only P (is_composed_name x) (Some (Node.category x)) (p2 e))
      (tag_is 3 _ _ (λ e. on_only P (is_composed_namespace x) (Some (Node.namespace x)) (p3 e))
      (tag_is 4 _ _ (λ e. on_only P (is_composed_property_name x) (Some (Node.existence x)) (p4 e))
      (tag_is 5 _ _ (λ e. on_only P (is_composed_property_name x) (Some (Node.subquery x)) (p5 e))
      (tag_is 6 _ _ (λ e. on_only P (is_composed_name y) _ (λ h. compared (λ d. Some (Node.article d y)) (p6 e h)))
      (tag_is 7 _ None (λ e. on_only P (is_composed_property_name x) _ (λ h. compared (λ d. v >>= λ w. Some (Node.value x d w)) (λ d. on_bind Q P v (λ w. Some (Node.value x d w)) constant (p7 e h d)))) tt)))))))
