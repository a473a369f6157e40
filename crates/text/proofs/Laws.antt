-- Laws of byte strings: sameness, order, words at the front, scans, tests over a list.
use Prim.Native.Nat.{ℕ, zero, suc, ◌+◌, ◌≤◌, ◌<◌}
use mathlib.Core.Path.{◌≡◌, refl, ap, sym, ◌∙◌}
use mathlib.Core.List.{List, [], ◌∷◌, ◌++◌}
use mathlib.Core.Bool.{Bool, true, false, cond, ◌&&◌, ◌||◌, false≢true, and-eq-true_iff, and-false, and_assoc, or_assoc, or-false}
use native.Mathlib.Omega.{arith}
use native.Mathlib.Numerals.{add-one}
use lib.Dec.{ltb, eqb, eqb-suc-suc, eqb-zero-suc, eqb-suc-zero}
use lib.ListN.{length, take, drop, get_or, drop_of_length-le, length-drop, length-take}
use lib.Seq.{drop-cons, length-take-le}
use borrow.Author.Tests.{lt-ltb, le-ltb, ltb-true, ltb-false, eqb-true, eq-eqb, ne_eqb}
use Rattle.std.specs.Ordering.{nat_cmp}
use Rattle.std.proofs.Common.{rules}
use Rattle.text.specs.Bytes.{Bytes, order_of, numbers, same, any, all, span, starts, part}
use Rattle.std.specs.declared.cmp.Ordering.TheVariants.{Less, Equal, Greater}

-- A part that lies within a text is as long as it says.
pub part_length : (s : Bytes) (start len : ℕ) → start + len ≤ length s → length (part s start len) ≡ len
part_length s start len h = length-take-le len (drop start s) (omega (arith, length-drop start s))

-- Two strings with the same bytes are one.
pub same_eq : (a b : Bytes) → same a b ≡ true → a ≡ b
unfolding same
same_eq [] [] h = refl
same_eq [] (y ∷ t) h = absurd (false≢true h)
same_eq (x ∷ s) [] h = absurd (false≢true h)
same_eq (x ∷ s) (y ∷ t) h =
    let e = (and-eq-true_iff (eqb x y) (same s t)).0 h in
    let k = eqb-true x y e.0 in
    let l = same_eq s t e.1 in
    cc

pub same_refl : (a : Bytes) → same a a ≡ true
unfolding same
same_refl [] = refl
same_refl (x ∷ s) = rw (eq-eqb x x refl) (same_refl s)

-- Sameness is length and the one standing at the other's front.
pub same_starts : (a b : Bytes) → same a b ≡ (eqb (length a) (length b) && starts b a)
unfolding same starts
same_starts [] [] = refl
same_starts [] (y ∷ t) = rw eqb-zero-suc
same_starts (x ∷ s) [] = rw eqb-suc-zero
same_starts (x ∷ s) (y ∷ t) = go (eqb x y) refl (same_starts s t)
  where
    go : (p : Bool) → eqb x y ≡ p → same s t ≡ (eqb (length s) (length t) && starts t s) → same (x ∷ s) (y ∷ t) ≡ (eqb (suc (length s)) (suc (length t)) && starts (y ∷ t) (x ∷ s))
    go true e ih = rw (e, starts, eqb-suc-suc) ih
    go false e ih = rw (e, starts) (sym (and-false (eqb (suc (length s)) (suc (length t)))))

module _ (a b : Bytes) where
  pub same_unlike : (length a ≡ length b → ⊥) → same a b ≡ false
  same_unlike h = same_starts a b ∙ rw (ne_eqb (length a) (length b) h)

-- Strings that differ at a place are not the same.
pub same_differs : (a b : Bytes) (i : ℕ) → (get_or a i 0 ≡ get_or b i 0 → ⊥) → same a b ≡ false
same_differs a b i h = go (same a b) refl
  where
    go : (p : Bool) → same a b ≡ p → p ≡ false
    go true e = absurd (h (ap (λ s. get_or s i 0) (same_eq a b e)))
    go false e = refl

-- Sameness at a place of both strings.
module _ (a b : Bytes) (i : ℕ) where
  pub same_end : length a ≤ i → length b ≤ i → same (drop i a) (drop i b) ≡ true
  unfolding same
  same_end p q = rw (drop_of_length-le a p, drop_of_length-le b q)

  module _ (p : i < length a) (q : i < length b) where
    pub same_other : (get_or a i 0 ≡ get_or b i 0 → ⊥) → same (drop i a) (drop i b) ≡ false
    unfolding same
    same_other h = rw (drop-cons a i 0 p, drop-cons b i 0 q, ne_eqb (get_or a i 0) (get_or b i 0) h)

    pub same_step : get_or a i 0 ≡ get_or b i 0 → same (drop i a) (drop i b) ≡ same (drop (i + 1) a) (drop (i + 1) b)
    unfolding same
    same_step h = rw (drop-cons a i 0 p, drop-cons b i 0 q, eq-eqb (get_or a i 0) (get_or b i 0) h, add-one)

-- The order of numbers.
module _ (a b : ℕ) where
  pub numbers_less : a < b → numbers a b ≡ Less
  unfolding numbers
  numbers_less h = rw (lt-ltb a b h)

  pub numbers_greater : b < a → numbers a b ≡ Greater
  unfolding numbers
  numbers_greater h = rw (le-ltb a b (omega arith), lt-ltb b a h)

  pub numbers_equal : b ≤ a → a ≤ b → numbers a b ≡ Equal
  unfolding numbers
  numbers_equal h k = rw (le-ltb a b h, le-ltb b a k)

-- Numbers are compared as the library compares them.
pub numbers_cmp : (a b : ℕ) → nat_cmp a b ≡ numbers a b
unfolding numbers
numbers_cmp a b = search (rules)

-- Two pairs of numbers that stand alike have one order.
pub numbers_like : (a b c d : ℕ) → (a < b → c < d) × (b < a → d < c) → (b ≤ a → d ≤ c) × (a ≤ b → c ≤ d) → numbers a b ≡ numbers c d
numbers_like a b c d f g = go (ltb a b) (ltb b a) refl refl
  where
    go : (p q : Bool) → ltb a b ≡ p → ltb b a ≡ q → numbers a b ≡ numbers c d
    go true q e k = let h = ltb-true a b e in numbers_less a b h ∙ sym (numbers_less c d (f.0 h))
    go false true e k = let h = ltb-true b a k in numbers_greater a b h ∙ sym (numbers_greater c d (f.1 h))
    go false false e k =
        let h = ltb-false a b e in
        let l = ltb-false b a k in
        numbers_equal a b h l ∙ sym (numbers_equal c d (g.0 h) (g.1 l))

-- Strings that are equal in the order are one.
pub order_refl : (a : Bytes) → order_of a a ≡ Equal
unfolding order_of
order_refl [] = refl
order_refl (x ∷ s) = rw (le-ltb x x (omega arith)) (order_refl s)

pub eq_order : (a b : Bytes) → a ≡ b → order_of a b ≡ Equal
eq_order a b e = rw (← e) (order_refl a)

pub order_eq : (a b : Bytes) → order_of a b ≡ Equal → a ≡ b
unfolding order_of
order_eq [] [] h = refl
order_eq [] (y ∷ t) h = cc
order_eq (x ∷ s) [] h = cc
order_eq (x ∷ s) (y ∷ t) h = go (ltb x y) (ltb y x) refl refl (order_eq s t)
  where
    go : (p q : Bool) → ltb x y ≡ p → ltb y x ≡ q → (order_of s t ≡ Equal → s ≡ t) → ◌≡◌ {A = Bytes} (x ∷ s) (y ∷ t)
    go true q e f ih = let z : Less ≡ Equal = rw e at h in cc
    go false true e f ih = let z : Greater ≡ Equal = rw (e, f) at h in cc
    go false false e f ih =
        let k : x ≡ y = omega (arith, ltb-false x y e, ltb-false y x f) in
        let l = ih (rw (e, f) at h) in
        cc

-- The order at a place of both strings.
module _ (a b : Bytes) (i : ℕ) where
  pub both_end : length a ≤ i → length b ≤ i → order_of (drop i a) (drop i b) ≡ Equal
  unfolding order_of
  both_end p q = rw (drop_of_length-le a p, drop_of_length-le b q)

  pub left_ends : length a ≤ i → i < length b → order_of (drop i a) (drop i b) ≡ Less
  unfolding order_of
  left_ends p q = rw (drop_of_length-le a p, drop-cons b i 0 q)

  pub right_ends : i < length a → length b ≤ i → order_of (drop i a) (drop i b) ≡ Greater
  unfolding order_of
  right_ends p q = rw (drop-cons a i 0 p, drop_of_length-le b q)

  module _ (p : i < length a) (q : i < length b) where
    at_place : order_of (drop i a) (drop i b) ≡ cond (ltb (get_or a i 0) (get_or b i 0)) Less (cond (ltb (get_or b i 0) (get_or a i 0)) Greater (order_of (drop (i + 1) a) (drop (i + 1) b)))
    unfolding order_of
    at_place = rw (drop-cons a i 0 p, drop-cons b i 0 q, add-one)

    pub less_here : get_or a i 0 < get_or b i 0 → order_of (drop i a) (drop i b) ≡ Less
    less_here h = at_place ∙ rw (lt-ltb _ _ h)

    pub greater_here : get_or b i 0 < get_or a i 0 → order_of (drop i a) (drop i b) ≡ Greater
    greater_here h = at_place ∙ rw (le-ltb (get_or a i 0) (get_or b i 0) (omega arith), lt-ltb _ _ h)

    pub same_here : get_or b i 0 ≤ get_or a i 0 → get_or a i 0 ≤ get_or b i 0 → order_of (drop i a) (drop i b) ≡ order_of (drop (i + 1) a) (drop (i + 1) b)
    same_here h k = at_place ∙ rw (le-ltb (get_or a i 0) (get_or b i 0) h, le-ltb (get_or b i 0) (get_or a i 0) k)

-- A word that stands at the front is the text's front.
pub starts_is : (w s : Bytes) → starts w s ≡ true → take (length w) s ≡ w
unfolding starts
starts_is [] s h = refl
starts_is (c ∷ w) [] h = absurd (false≢true h)
starts_is (c ∷ w) (b ∷ s) h = go (eqb b c) refl (starts_is w s)
  where
    go : (t : Bool) → eqb b c ≡ t → (starts w s ≡ true → take (length w) s ≡ w) → ◌≡◌ {A = Bytes} (b ∷ take (length w) s) (c ∷ w)
    go true e ih =
        let k = eqb-true b c e in
        let l = ih (rw (e, starts) at h) in
        cc
    go false e ih = absurd (false≢true (rw (e, starts) at h))

-- A word that stands at a place ends within the text.
pub starts_fits : (w s : Bytes) → starts w s ≡ true → length w ≤ length s
starts_fits w s h = omega (arith, ap length (starts_is w s h), length-take (length w) s)

pub word_end : (w s : Bytes) (at : ℕ) → 0 < length w → starts w (drop at s) ≡ true → at + length w ≤ length s
word_end w s at p h = omega (arith, starts_fits w (drop at s) h, length-drop at s)

-- Scans: at the end, at a byte that fails the test, at one that passes it.
module _ (p : ℕ → Bool) (s : Bytes) (i : ℕ) where
  pub span_end : length s ≤ i → span p (drop i s) ≡ 0
  unfolding span
  span_end h = rw (drop_of_length-le s h)

  pub span_stop : i < length s → p (get_or s i 0) ≡ false → span p (drop i s) ≡ 0
  unfolding span
  span_stop h e = rw (drop-cons s i 0 h, e, span)

  pub span_step : i < length s → p (get_or s i 0) ≡ true → span p (drop i s) ≡ suc (span p (drop (i + 1) s))
  unfolding span
  span_step h e = rw (add-one i, drop-cons s i 0 h, e, span)

  -- The same for the place that a scan answers.
  pub scan_end : length s ≤ i → i + span p (drop i s) ≡ i
  scan_end h = omega (arith, span_end h)

  pub scan_stop : i < length s → p (get_or s i 0) ≡ false → i + span p (drop i s) ≡ i
  scan_stop h e = omega (arith, span_stop h e)

  pub scan_step : i < length s → p (get_or s i 0) ≡ true → i + span p (drop i s) ≡ (i + 1) + span p (drop (i + 1) s)
  scan_step h e = omega (arith, span_step h e)

-- A scan stays within the text.
pub span_le : (p : ℕ → Bool) (s : Bytes) → span p s ≤ length s
unfolding span
span_le p [] = omega arith
span_le p (b ∷ s) = go (p b) refl (span_le p s)
  where
    go : (t : Bool) → p b ≡ t → span p s ≤ length s → span p (b ∷ s) ≤ suc (length s)
    go true e ih = rw (e, span) (omega arith)
    go false e ih = rw (e, span) (omega arith)

-- Every byte passes where the scan goes to the end.
pub all_is : (p : ℕ → Bool) (s : Bytes) → all p s ≡ eqb (span p s) (length s)
unfolding all span
all_is p [] = refl
all_is p (b ∷ s) = go (p b) refl (all_is p s)
  where
    go : (t : Bool) → p b ≡ t → all p s ≡ eqb (span p s) (length s) → (p b && all p s) ≡ eqb (span p (b ∷ s)) (suc (length s))
    go true e ih = rw (e, span, eqb-suc-suc) ih
    go false e ih = rw (e, span, eqb-zero-suc)

pub all_span : (p : ℕ → Bool) (s : Bytes) → all p s ≡ true → span p s ≡ length s
all_span p s h = eqb-true _ _ (sym (all_is p s) ∙ h)

-- Tests over a list.
module _ {A : Type 0} (p : A → Bool) where
  pub any_append : (s t : List A) → any p (s ++ t) ≡ (any p s || any p t)
  unfolding any
  any_append [] t = refl
  any_append (x ∷ s) t = rw (any_append s t) (sym (or_assoc (p x) (any p s) (any p t)))

  pub all_append : (s t : List A) → all p (s ++ t) ≡ (all p s && all p t)
  unfolding all
  all_append [] t = refl
  all_append (x ∷ s) t = rw (all_append s t) (sym (and_assoc (p x) (all p s) (all p t)))

  pub all_at : (s : List A) (i : ℕ) (d : A) → all p s ≡ true → i < length s → p (get_or s i d) ≡ true
  unfolding all
  all_at [] i d h l = absurd (omega arith)
  all_at (x ∷ s) zero d h l = ((and-eq-true_iff (p x) (all p s)).0 h).0
  all_at (x ∷ s) (suc i) d h l = all_at s i d ((and-eq-true_iff (p x) (all p s)).0 h).1 (omega arith)

  pub any_three : (x y z : A) → any p (x ∷ y ∷ z ∷ []) ≡ (p x || p y || p z)
  unfolding any
  any_three x y z = rw or-false (sym (or_assoc (p x) (p y) (p z)))

  -- At a place of a list.
  module _ (s : List A) (i : ℕ) (d : A) where
    pub any_end : length s ≤ i → any p (drop i s) ≡ false
    unfolding any
    any_end h = rw (drop_of_length-le s h)
