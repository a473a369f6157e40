-- Values that are the same are one value.
use Rattle.std.specs.Prelude.{Some, None}
use Prim.Native.Nat.{ℕ}
use mathlib.Core.Path.{◌≡◌, refl, sym, ap, ◌∙◌}
use mathlib.Core.Bool.{Bool, true, false, cond, and-eq-true_iff, false≢true}
use native.Mathlib.Omega.{arith}
use lib.Dec.{eqb, ltb}
use borrow.Author.Tests.{eqb-true, eq-eqb, ne_eqb, ltb-false}
use Rattle.text.specs.Bytes.{same, order_of, numbers}
use Rattle.std.specs.declared.cmp.Ordering.{Ordering}
use Rattle.text.proofs.Laws.{same_eq, same_refl, numbers_equal, order_eq, order_refl}
use Rattle.values.specs.Names.{Identifier, same_identifier}
use Rattle.values.specs.Values.{Constant, scalar, string, Value, plain, link, kind_code, kind_from, same_scalar, same_kind, order_constants, is_equal_order, same_value}
use Rattle.values.specs.declared.Kind.{Kind}
use Rattle.values.specs.declared.Scalar.{Scalar}
use Rattle.values.proofs.EachKind.{kind_coded, codes_apart}

-- an order that is not `Equal`
no_order : {A : Type 0} {o : Ordering} → is_equal_order (Some o) ≡ false → o ≡ Ordering.Equal → A
no_order n e = absurd (false≢true (sym n ∙ ap (λ o. is_equal_order (Some o)) e))

numbers_eq : (a b : ℕ) → numbers a b ≡ Ordering.Equal → a ≡ b
unfolding numbers
numbers_eq a b h = go (ltb a b) (ltb b a) refl refl h
  where
    go : (p q : Bool) → ltb a b ≡ p → ltb b a ≡ q → cond p Ordering.Less (cond q Ordering.Greater Ordering.Equal) ≡ Ordering.Equal → a ≡ b
    go true q e f h = no_order refl h
    go false true e f h = no_order refl h
    go false false e f h = omega (arith, ltb-false a b e, ltb-false b a f)

pub same_coded : (a b : Kind) → eqb (kind_code a) (kind_code b) ≡ same_kind a b
same_coded Kind.Page Kind.Page = refl
same_coded Kind.Page (Kind.Scalar k) = ne_eqb _ _ (λ e. (codes_apart k).0 (sym e))
same_coded Kind.Page Kind.String = refl
same_coded (Kind.Scalar j) Kind.Page = ne_eqb _ _ (codes_apart j).0
same_coded (Kind.Scalar j) (Kind.Scalar k) = refl
same_coded (Kind.Scalar j) Kind.String = ne_eqb _ _ (codes_apart j).1
same_coded Kind.String Kind.Page = refl
same_coded Kind.String (Kind.Scalar k) = ne_eqb _ _ (λ e. (codes_apart k).1 (sym e))
same_coded Kind.String Kind.String = refl

pub kind_eq : (a b : Kind) → same_kind a b ≡ true → a ≡ b
kind_eq a b h = sym (kind_coded a) ∙ ap kind_from (eqb-true (kind_code a) (kind_code b) (same_coded a b ∙ h)) ∙ kind_coded b

pub kind_refl : (a : Kind) → same_kind a a ≡ true
kind_refl a = sym (same_coded a a) ∙ eq-eqb (kind_code a) (kind_code a) refl

abbrev scalar_of : Kind → Scalar
scalar_of Kind.Page = Scalar.Number
scalar_of (Kind.Scalar k) = k
scalar_of Kind.String = Scalar.Number

pub scalar_eq : (j k : Scalar) → same_scalar j k ≡ true → j ≡ k
scalar_eq j k h = ap scalar_of (kind_eq (Kind.Scalar j) (Kind.Scalar k) h)

equal_order : (o : Ordering) → is_equal_order (Some o) ≡ true → o ≡ Ordering.Equal
equal_order Ordering.Less h = absurd (false≢true h)
equal_order Ordering.Equal h = refl
equal_order Ordering.Greater h = absurd (false≢true h)

constant_eq : (a b : Constant) → is_equal_order (order_constants a b) ≡ true → a ≡ b
constant_eq (scalar j a) (scalar k b) h = go (same_scalar j k) refl h
  where
    go : (t : Bool) → same_scalar j k ≡ t → is_equal_order (cond t (Some (numbers a b)) None) ≡ true → scalar j a ≡ scalar k b
    go true e h =
        let n : a ≡ b = numbers_eq a b (equal_order (numbers a b) h) in
        ap (λ (i : Scalar). scalar i a) (scalar_eq j k e) ∙ ap (scalar k) n
    go false e h = absurd (false≢true h)
constant_eq (scalar k a) (string b) h = absurd (false≢true h)
constant_eq (string a) (scalar k b) h = absurd (false≢true h)
constant_eq (string a) (string b) h = ap string (order_eq a b (equal_order (order_of a b) h))

constant_refl : (a : Constant) → is_equal_order (order_constants a a) ≡ true
constant_refl (scalar k a) = rw (kind_refl (Kind.Scalar k), numbers_equal a a (omega arith) (omega arith))
constant_refl (string a) = rw (order_refl a)

pub identifier_eq : (i j : Identifier) → same_identifier i j ≡ true → i ≡ j
identifier_eq i j h =
    let t = (and-eq-true_iff (same i.namespace j.namespace) (same i.article j.article)).0 h in
    λ k. record { namespace = same_eq i.namespace j.namespace t.0 k; article = same_eq i.article j.article t.1 k }

pub identifier_refl : (i : Identifier) → same_identifier i i ≡ true
identifier_refl i = rw (same_refl i.namespace, same_refl i.article)

pub value_eq : (v w : Value) → same_value v w ≡ true → v ≡ w
value_eq (plain a) (plain b) h = ap plain (constant_eq a b h)
value_eq (plain a) (link j) h = absurd (false≢true h)
value_eq (link i) (plain b) h = absurd (false≢true h)
value_eq (link i) (link j) h = ap link (identifier_eq i j h)

pub value_refl : (v : Value) → same_value v v ≡ true
value_refl (plain a) = constant_refl a
value_refl (link i) = identifier_refl i
