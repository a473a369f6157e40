-- Laws of parts of a list, and of lists joined.
use Prim.Native.Nat.{ℕ, zero, suc, ◌+◌, ◌-◌, ◌≤◌, ◌<◌}
use mathlib.Core.Path.{◌≡◌, refl, ap, ap₂, sym, ◌∙◌}
use mathlib.Core.List.{List, [], ◌∷◌, ◌++◌, map, flat_map, append_assoc, append-nil, map-append}
use native.Mathlib.Nat.{zero-add, suc-add}
use native.Mathlib.Omega.{arith}
use lib.ListN.{length, get_or, take, drop, length-drop, take-append-drop}
use lib.Seq.{get_or-take, get_or-drop, length-take-le, take-append-le, drop-append-le, drop-append-add, take-take, drop-drop, take-add, take-nil}
use Rattle.text.specs.Bytes.{Bytes, part}
use Rattle.text.specs.Table.{tabulate}

pub both : {a b c d : Bytes} → a ≡ b → c ≡ d → a ++ c ≡ b ++ d
both p q = ap₂ (λ (x y : Bytes). x ++ y) p q

pub length_part : (h : Bytes) (base n : ℕ) → base + n ≤ length h → length (part h base n) ≡ n
length_part h base n b = length-take-le n (drop base h) (omega (arith, length-drop base h))

pub get_d_part : (h : Bytes) (base n i : ℕ) → i < n → get_or (part h base n) i 0 ≡ get_or h (base + i) 0
get_d_part h base n i l = get_or-take n (drop base h) i 0 l ∙ get_or-drop base h i 0

-- a part and the part behind it
pub part_add : (h : Bytes) (base n m : ℕ) → part h base (n + m) ≡ part h base n ++ part h (base + n) m
part_add h base n m = take-add n m (drop base h) ∙ ap (λ (r : Bytes). part h base n ++ take m r) (drop-drop n base h)

-- a part and all that is behind it
pub part_rest : (h : Bytes) (base n : ℕ) → drop base h ≡ part h base n ++ drop (base + n) h
part_rest h base n = sym (take-append-drop n (drop base h)) ∙ ap (λ (r : Bytes). part h base n ++ r) (drop-drop n base h)

drop_take : (n m : ℕ) (l : Bytes) → drop n (take (n + m) l) ≡ take m (drop n l)
drop_take zero m l = rw zero-add
drop_take (suc n) m [] = rw (suc-add n m) (sym (take-nil m))
drop_take (suc n) m (x ∷ l) = rw (suc-add n m) (drop_take n m l)

-- a part of a part
pub part_part : (h : Bytes) (base size at n : ℕ) → at + n ≤ size → part (part h base size) at n ≡ part h (base + at) n
part_part h base size at n b =
    let e : size ≡ at + (size - at) = omega arith in
    ap (λ k. take n (drop at (take k (drop base h)))) e
    ∙ ap (take n) (drop_take at (size - at) (drop base h))
    ∙ take-take n (size - at) (drop at (drop base h)) (omega arith)
    ∙ ap (take n) (drop-drop at base h)

-- what stands before other bytes, and behind others
pub part_before : (l s : Bytes) (at n : ℕ) → at + n ≤ length l → part (l ++ s) at n ≡ part l at n
part_before l s at n b = ap (take n) (drop-append-le at l s (omega arith)) ∙ take-append-le n (drop at l) s (omega (arith, length-drop at l))

pub part_behind : (a s : Bytes) (k at n : ℕ) → length a ≡ k → part (a ++ s) (k + at) n ≡ part s at n
part_behind a s k at n e = rw (← e) (ap (take n) (drop-append-add a s at))

-- lists joined
module _ {A B : Type 0} (f : A → List B) where
  pub flat_append : (l m : List A) → flat_map f (l ++ m) ≡ flat_map f l ++ flat_map f m
  unfolding flat_map
  flat_append [] m = refl
  flat_append (a ∷ l) m = rw (flat_append l m) (sym (append_assoc (f a) (flat_map f l) (flat_map f m)))

  -- a table grows at its end
  pub flat_more : (n : ℕ) (g : ℕ → A) → flat_map f (tabulate (suc n) g) ≡ flat_map f (tabulate n g) ++ f (g n)
  unfolding tabulate flat_map
  flat_more n g = flat_append (tabulate n g) (g n ∷ []) ∙ rw append-nil

-- joining after a map, and a map of a table
pub flat_map_lem : {A B : Type 0} (f : A → List B) (l : List A) → flat_map (λ t. t) (map f l) ≡ flat_map f l
unfolding flat_map
flat_map_lem f [] = refl
flat_map_lem f (a ∷ l) = rw (flat_map_lem f l)

pub map_tabulate : {A B : Type 0} (f : A → B) (n : ℕ) (g : ℕ → A) → map f (tabulate n g) ≡ tabulate n (λ i. f (g i))
unfolding tabulate
map_tabulate f zero g = refl
map_tabulate f (suc n) g = map-append f (tabulate n g) (g n ∷ []) ∙ rw (map_tabulate f n g)
