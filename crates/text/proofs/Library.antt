-- What the library's tests and comparisons answer, in the words of this crate, and what that says of a word at the front.
use Prim.Native.Nat.{ℕ}
use mathlib.Core.Path.{◌≡◌, refl, sym, ◌∙◌}
use mathlib.Core.Bool.{Bool, true, false, cond, ◌&&◌}
use mathlib.Core.List.{List, [], ◌∷◌}
use lib.Dec.{ltb, eqb}
use native.Mathlib.Omega.{arith}
use lib.ListN.{length, take, drop, length-drop}
use lib.Seq.{take_all}
use Rattle.std.specs.List.{list_any}
use Rattle.std.specs.Ordering.{nat_cmp, ordering_then}
use Rattle.std.specs.Prelude.{nat_eq}
use Rattle.std.specs.Cmp.{nat_eq_equiv}
use Rattle.std.specs.declared.cmp.Ordering.TheVariants.{Less, Equal, Greater}
use Rattle.std.specs.Cmp.Lexicographic.{pointwise, slice_cmp}
use Rattle.text.specs.Bytes.{Bytes, any, same, starts, order_of, numbers, part}
use Rattle.text.proofs.Laws.{numbers_cmp}

pub contains_any : (b : ℕ) (l : List ℕ) → list_any (λ y. nat_eq y b) l ≡ any (eqb b) l
unfolding any
contains_any b [] = refl
contains_any b (x ∷ l) = rw (contains_any b l, nat_eq_equiv.symm x b)

pub pointwise_same : (a b : Bytes) → pointwise nat_eq a b ≡ same a b
unfolding same
pointwise_same [] [] = refl
pointwise_same [] (y ∷ t) = refl
pointwise_same (x ∷ s) [] = refl
pointwise_same (x ∷ s) (y ∷ t) = rw (pointwise_same s t)

pub pointwise_starts : (w s : Bytes) → pointwise nat_eq (take (length w) s) w ≡ starts w s
unfolding starts
pointwise_starts [] s = refl
pointwise_starts (c ∷ w) [] = refl
pointwise_starts (c ∷ w) (b ∷ s) = go (eqb b c) refl (pointwise_starts w s)
  where
    go : (t : Bool) → eqb b c ≡ t → pointwise nat_eq (take (length w) s) w ≡ starts w s → (eqb b c && pointwise nat_eq (take (length w) s) w) ≡ starts (c ∷ w) (b ∷ s)
    go true e ih = rw (e, starts) ih
    go false e ih = rw (e, starts)

-- A word stands at the front where as many bytes are the same as its.
pub starts_front : (w s : Bytes) → same (take (length w) s) w ≡ starts w s
starts_front w s = sym (pointwise_same (take (length w) s) w) ∙ pointwise_starts w s

pub cmp_order : (a b : Bytes) → slice_cmp nat_cmp a b ≡ order_of a b
unfolding order_of numbers
cmp_order [] [] = refl
cmp_order [] (y ∷ t) = refl
cmp_order (x ∷ s) [] = refl
cmp_order (x ∷ s) (y ∷ t) = rw (numbers_cmp x y, numbers) (go (ltb x y) (ltb y x) (cmp_order s t))
  where
    go : (p q : Bool) → slice_cmp nat_cmp s t ≡ order_of s t → ordering_then (cond p Less (cond q Greater Equal)) (slice_cmp nat_cmp s t) ≡ cond p Less (cond q Greater (order_of s t))
    go true q ih = refl
    go false true ih = refl
    go false false ih = ih

-- All from a place on is what is dropped up to it.
pub part_rest : (s : Bytes) (i : ℕ) → part s i (length s) ≡ drop i s
part_rest s i = take_all (length s) (drop i s) (omega (arith, length-drop i s))
