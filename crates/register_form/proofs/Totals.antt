-- Sums over the elements of a list.
use Prim.Native.Nat.{ℕ, suc, ◌+◌, ◌≤◌}
use mathlib.Core.Path.{◌≡◌, refl, ap, ◌∙◌}
use mathlib.Core.List.{List, [], ◌∷◌, map, flat_map, Memᴰ}
use native.Mathlib.Omega.{arith}
use lib.ListN.{length, length-append}
use Rattle.text.specs.Bytes.{Bytes, order_of}
use Rattle.std.specs.declared.cmp.Ordering.{Ordering}
use Rattle.std.specs.declared.cmp.Ordering.TheVariants.{Less, Equal, Greater}
use Rattle.language.specs.Rules.{total}
use Rattle.language.proofs.Adding.{total_append}
use Rattle.sorting.specs.Ascending.{placed, insert_sorted, sorted}

module _ {A : Type 0} where
  pub total_most : (f g : A → ℕ) (l : List A) → ((a : A) → f a ≤ g a) → total f l ≤ total g l
  unfolding total
  total_most f g [] h = omega arith
  total_most f g (x ∷ l) h = omega (arith, h x, total_most f g l h)

  pub total_same : (f g : A → ℕ) (l : List A) → ((a : A) → f a ≡ g a) → total f l ≡ total g l
  unfolding total
  total_same f g [] h = refl
  total_same f g (x ∷ l) h = omega (arith, h x, total_same f g l h)

  pub total_suc : (f : A → ℕ) (l : List A) → total (λ a. suc (f a)) l ≡ length l + total f l
  unfolding total
  total_suc f [] = refl
  total_suc f (x ∷ l) = omega (arith, total_suc f l)

  pub total_both : (f g : A → ℕ) (l : List A) → total f l + total g l ≡ total (λ a. f a + g a) l
  unfolding total
  total_both f g [] = refl
  total_both f g (x ∷ l) = omega (arith, total_both f g l)

  pub total_members : (f g : A → ℕ) (l : List A) → ((a : A) → Memᴰ a l → f a ≡ g a) → total f l ≡ total g l
  unfolding total
  total_members f g [] h = refl
  total_members f g (x ∷ l) h = omega (arith, h x (Memᴰ.head refl), total_members f g l (λ a m. h a (Memᴰ.tail m)))

  total_ones : (l : List A) → total (λ a. 1) l ≡ length l
  unfolding total
  total_ones [] = refl
  total_ones (x ∷ l) = omega (arith, total_ones l)

  module _ {B : Type 0} where
    pub total_mapped : (f : B → ℕ) (g : A → B) (l : List A) → total f (map g l) ≡ total (λ a. f (g a)) l
    unfolding total
    total_mapped f g [] = refl
    total_mapped f g (x ∷ l) = rw (total_mapped f g l)

    pub total_flat : (f : B → ℕ) (g : A → List B) (l : List A) → total f (flat_map g l) ≡ total (λ a. total f (g a)) l
    unfolding total flat_map
    total_flat f g [] = refl
    total_flat f g (x ∷ l) = total_append f (g x) (flat_map g l) ∙ rw (total_flat f g l)

    pub length_flat : (f : A → List B) (l : List A) → length (flat_map f l) ≡ total (λ a. length (f a)) l
    unfolding flat_map total
    length_flat f [] = refl
    length_flat f (x ∷ l) = length-append (f x) (flat_map f l) ∙ ap (λ (n : ℕ). length (f x) + n) (length_flat f l)

-- A sorted list leaves out what is there twice, so its sum is no greater.
pub total_sorted : (f : Bytes → ℕ) (m : List Bytes) → total f (sorted order_of m) ≤ total f m
unfolding sorted insert_sorted total
total_sorted f [] = omega arith
total_sorted f (x ∷ m) = omega (arith, inserted (sorted order_of m), total_sorted f m)
  where
    inserted : (l : List Bytes) → total f (insert_sorted order_of x l) ≤ f x + total f l
    inserted [] = omega arith
    inserted (y ∷ l) = go (order_of x y) (inserted l)
      where
        go : (r : Ordering) → total f (insert_sorted order_of x l) ≤ f x + total f l → total f (placed r x y l (insert_sorted order_of x l)) ≤ f x + (f y + total f l)
        go Less ih = omega arith
        go Equal ih = omega arith
        go Greater ih = omega arith

pub length_sorted : (m : List Bytes) → length (sorted order_of m) ≤ length m
length_sorted m = omega (arith, total_sorted (λ t. 1) m, total_ones m, total_ones (sorted order_of m))
