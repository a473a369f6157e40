-- Members of lists, and of sorted lists of byte strings by their numbers.
use Prim.Native.Nat.{ℕ, zero, suc, ◌<◌}
use mathlib.Core.Path.{◌≡◌, refl, sym, ap, ◌∙◌, subst}
use mathlib.Core.Bool.{true, ◌||◌, false≢true, or-true}
use mathlib.Core.List.Memᴰ
use mathlib.Core.List.{List, [], ◌∷◌, flat_map, Memᴰ}
use mathlib.Core.Logic.{◌⊎◌, inl, inr}
use native.Mathlib.Omega.{arith}
use lib.Dec.{eqb}
use lib.ListN.{length, get_or}
use borrow.Author.Tests.{eqb-true, eq-eqb}
use Rattle.text.specs.Bytes.{Bytes, order_of, any}
use Rattle.std.specs.declared.cmp.Ordering.{Ordering}
use Rattle.std.specs.declared.cmp.Ordering.TheVariants.{Less, Equal, Greater}
use Rattle.sorting.specs.Ascending.{is_equal, member, ascends, sorted, rank}
use Rattle.sorting.proofs.Canonical.{sorted_ascends, member_sorted, canonical_each}
use Rattle.sorting.proofs.Ranks.{get_d_rank, rank_at}
use Rattle.sorting.proofs.Orders.{bytes_total}
use Rattle.register_form.specs.Tests.{every_used}
use Rattle.language.proofs.Members.{any_found, any_mem}
use Rattle.buffer.proofs.Regions.{all_to_lem, to_all}

module _ {A : Type 0} where
  -- Members by their places.
  pub mem_at : (l : List A) (i : ℕ) (d : A) → i < length l → Memᴰ (get_or l i d) l
  mem_at [] i d h = absurd (omega arith)
  mem_at (x ∷ l) zero d h = Memᴰ.head refl
  mem_at (x ∷ l) (suc i) d h = Memᴰ.tail (mem_at l i d (omega arith))

  pub mem_place : {a : A} {l : List A} (d : A) → Memᴰ a l → (i : ℕ) × (i < length l) × (get_or l i d ≡ a)
  mem_place d (Memᴰ.head e) = (0, omega arith, sym e)
  mem_place d (Memᴰ.tail m) = let r = mem_place d m in let k = r.1 in (suc r.0, omega arith, r.2)

  module _ {B : Type 0} (f : A → List B) where
    pub mem_flat : {a : A} {b : B} {l : List A} → Memᴰ a l → Memᴰ b (f a) → Memᴰ b (flat_map f l)
    unfolding flat_map
    mem_flat {a} {b} (Memᴰ.head {x = x} {xs = l} e) m = Memᴰ.append_left (flat_map f l) (subst (λ (v : A). Memᴰ b (f v)) e m)
    mem_flat (Memᴰ.tail {x = x} {xs = l} n) m = Memᴰ.append_right (f x) (mem_flat n m)

    pub of_flat : {b : B} (l : List A) → Memᴰ b (flat_map f l) → (a : A) × Memᴰ a l × Memᴰ b (f a)
    unfolding flat_map
    of_flat [] m = absurd (Memᴰ.not-nil m)
    of_flat {b} (x ∷ l) m = go (λ (n : Memᴰ b (flat_map f l)). of_flat l n) (Memᴰ.append_cases (f x) m)
      where
        go : (Memᴰ b (flat_map f l) → (a : A) × Memᴰ a l × Memᴰ b (f a)) → Memᴰ b (f x) ⊎ Memᴰ b (flat_map f l) → (a : A) × Memᴰ a (x ∷ l) × Memᴰ b (f a)
        go ih (inl n) = (x, Memᴰ.head refl, n)
        go ih (inr n) = let r = ih n in (r.0, Memᴰ.tail r.1, r.2)

-- Numbers that are used.
pub used_mem : (n : ℕ) (uses : List ℕ) → every_used n uses ≡ true → (i : ℕ) → i < n → Memᴰ i uses
unfolding every_used
used_mem n uses h i k =
    let r = any_found (eqb i) uses (all_to_lem n (λ j. any (eqb j) uses) h i k) in
    Memᴰ.cast (eqb-true i r.0 r.2) r.1

pub mem_used : (n : ℕ) (uses : List ℕ) → ((i : ℕ) → i < n → Memᴰ i uses) → every_used n uses ≡ true
unfolding every_used
mem_used n uses h = to_all n (λ j. any (eqb j) uses) (λ i k. any_mem (eqb i) (h i k) (eq-eqb i i refl))

-- Byte strings: the test for members finds them.
pub member_mem : (z : Bytes) (l : List Bytes) → member order_of z l ≡ true → Memᴰ z l
unfolding member
member_mem z [] h = absurd (false≢true h)
member_mem z (x ∷ l) h = go (order_of z x) refl h (member_mem z l)
  where
    go : (r : Ordering) → order_of z x ≡ r → (is_equal r || member order_of z l) ≡ true → (member order_of z l ≡ true → Memᴰ z l) → Memᴰ z (x ∷ l)
    go Equal e k ih = Memᴰ.head (bytes_total.one z x e)
    go Less e k ih = Memᴰ.tail (ih k)
    go Greater e k ih = Memᴰ.tail (ih k)

pub mem_member : {z : Bytes} {l : List Bytes} → Memᴰ z l → member order_of z l ≡ true
unfolding member
mem_member (Memᴰ.head {x = x} {xs = l} e) = rw (e, bytes_total.self x)
mem_member {z} (Memᴰ.tail {x = x} {xs = l} m) = rw (mem_member m) (or-true (is_equal (order_of z x)))

-- An ascending list with the members of another is that other, sorted.
pub sorted_is : (l m : List Bytes) → ascends order_of l ≡ true → ((z : Bytes) → Memᴰ z l → Memᴰ z m) → ((z : Bytes) → Memᴰ z m → Memᴰ z l) → l ≡ sorted order_of m
sorted_is l m up f g = canonical_each order_of bytes_total l m up (λ z h. mem_member (f z (member_mem z l h))) (λ z h. mem_member (g z (member_mem z m h)))

-- The number of a string in an ascending list.
module _ (l : List Bytes) (up : ascends order_of l ≡ true) where
  pub number_back : (t : Bytes) → Memᴰ t l → get_or l (rank order_of t l) [] ≡ t
  number_back t m = get_d_rank order_of bytes_total t l [] up (mem_member m)

  pub number_at : (i : ℕ) → i < length l → rank order_of (get_or l i []) l ≡ i
  number_at i h = rank_at order_of bytes_total l i [] up h

  pub number_one : (i j : ℕ) → i < length l → j < length l → get_or l i [] ≡ get_or l j [] → i ≡ j
  number_one i j h k e = sym (number_at i h) ∙ ap (λ (v : Bytes). rank order_of v l) e ∙ number_at j k

  pub number_small : (t : Bytes) → Memᴰ t l → rank order_of t l < length l
  number_small t m =
      let r = mem_place [] m in
      let k = r.1 in
      let e : rank order_of t l ≡ r.0 = ap (λ (v : Bytes). rank order_of v l) (sym r.2) ∙ number_at r.0 r.1 in
      omega arith

module _ (m : List Bytes) where
  pub sorted_up : ascends order_of (sorted order_of m) ≡ true
  sorted_up = sorted_ascends order_of bytes_total m

  pub mem_sorted : {z : Bytes} → Memᴰ z m → Memᴰ z (sorted order_of m)
  mem_sorted {z} h = member_mem z (sorted order_of m) (member_sorted order_of bytes_total z m ∙ mem_member h)

  pub of_sorted : {z : Bytes} → Memᴰ z (sorted order_of m) → Memᴰ z m
  of_sorted {z} h = member_mem z m (sym (member_sorted order_of bytes_total z m) ∙ mem_member h)
