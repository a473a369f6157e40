-- One of two ascending lists, as far as it is merged.
use Prim.Native.Nat.{ℕ, suc, ◌+◌, ◌≤◌, ◌<◌}
use mathlib.Core.Path.{◌≡◌, refl, sym, ap, ◌∙◌}
use mathlib.Core.Bool.{Bool, true, false, cond}
use mathlib.Core.List.{List}
use native.Mathlib.Omega.{arith}
use native.Mathlib.Numerals.{add-one}
use native.Mathlib.Decide.{ℕ_discrete}
use lib.ListN.{length, get_or, set}
use lib.Seq.{get_or-set_same}
use Rattle.text.specs.Bytes.{Bytes, order_of}
use Rattle.text.specs.Table.{bit}
use Rattle.std.specs.declared.cmp.Ordering.TheVariants.{Less}
use Rattle.sorting.proofs.Orders.{bytes_total}
use Rattle.register_join_merge.proofs.Stored.{put_other}

-- The first i of n texts are among the first k that are out, and these are less than the next.
pub record Half (t : ℕ → Bytes) (n i k : ℕ) (out : ℕ → Bytes) (items : List ℕ) : Type 0 where
  pub below : (x : ℕ) → x < i → get_or items x 0 < k
  pub is : (x : ℕ) → x < i → out (get_or items x 0) ≡ t x
  pub above : (a : ℕ) → a < k → i < n → order_of (out a) (t i) ≡ Less

-- Item a is that of one of the first i.
pub record Has (items : List ℕ) (i a : ℕ) : Type 0 where
  pub number : ℕ
  pub below : number < i
  pub is : get_or items number 0 ≡ a

pub half_none : (t : ℕ → Bytes) (n : ℕ) (out : ℕ → Bytes) (items : List ℕ) → Half t n 0 0 out items
half_none t n out items = record { below = λ x b. absurd (omega arith); is = λ x b. absurd (omega arith); above = λ a b c. absurd (omega arith) }

-- One text more, w, is out; f says that it is the next of this list.
module _ (t : ℕ → Bytes) (n : ℕ) (up : (x : ℕ) → suc x < n → order_of (t x) (t (suc x)) ≡ Less)
    (i k : ℕ) (out new : ℕ → Bytes) (items u : List ℕ) (w : Bytes) (last : new k ≡ w) (old : (a : ℕ) → a < k → new a ≡ out a) (h : Half t n i k out items) where
  taken : i < n → w ≡ t i → i < length items → u ≡ set items i k → Half t n (i + 1) (k + 1) new u
  taken b e r s = record { below = λ x l. below x l (ℕ_discrete x i); is = λ x l. is x l (ℕ_discrete x i); above = λ a l m. above a l m (ℕ_discrete a k) }
    where
      at : get_or u i 0 ≡ k
      at = ap (λ (z : List ℕ). get_or z i 0) s ∙ get_or-set_same items i k 0 r

      before : (x : ℕ) → (x ≡ i → ⊥) → get_or u x 0 ≡ get_or items x 0
      before x q = put_other items u i k x s q

      below : (x : ℕ) → x < i + 1 → Dec (x ≡ i) → get_or u x 0 < k + 1
      below x l (yes p) = rw p (omega (arith, at))
      below x l (no p) = omega (arith, before x p, h.below x (omega (arith, p)))

      is : (x : ℕ) → x < i + 1 → Dec (x ≡ i) → new (get_or u x 0) ≡ t x
      is x l (yes p) = ap (λ (z : ℕ). new (get_or u z 0)) p ∙ ap new at ∙ last ∙ e ∙ ap t (sym p)
      is x l (no p) = let m : x < i = omega (arith, p) in ap new (before x p) ∙ old (get_or items x 0) (h.below x m) ∙ h.is x m

      step : i + 1 < n → order_of (t i) (t (i + 1)) ≡ Less
      step m = ap (λ (z : ℕ). order_of (t i) (t z)) (add-one i) ∙ up i (omega arith)

      above : (a : ℕ) → a < k + 1 → i + 1 < n → Dec (a ≡ k) → order_of (new a) (t (i + 1)) ≡ Less
      above a l m (yes p) = ap (λ (z : Bytes). order_of z (t (i + 1))) (ap new p ∙ last ∙ e) ∙ step m
      above a l m (no p) =
          let c : a < k = omega (arith, p) in
          bytes_total.chain (new a) (t i) (t (i + 1)) (ap (λ (z : Bytes). order_of z (t i)) (old a c) ∙ h.above a c b) (step m)

  left : (i < n → order_of w (t i) ≡ Less) → u ≡ items → Half t n i (k + 1) new u
  left less s = record { below = λ x b. omega (arith, same x, h.below x b); is = λ x b. ap new (same x) ∙ old (get_or items x 0) (h.below x b) ∙ h.is x b; above = λ a l m. above a l m (ℕ_discrete a k) }
    where
      same : (x : ℕ) → get_or u x 0 ≡ get_or items x 0
      same x = ap (λ (z : List ℕ). get_or z x 0) s

      above : (a : ℕ) → a < k + 1 → i < n → Dec (a ≡ k) → order_of (new a) (t i) ≡ Less
      above a l m (yes p) = ap (λ (z : Bytes). order_of z (t i)) (ap new p ∙ last) ∙ less m
      above a l m (no p) = let c : a < k = omega (arith, p) in ap (λ (z : Bytes). order_of z (t i)) (old a c) ∙ h.above a c m

  pub half_next : (f : Bool) (j l : ℕ) → (f ≡ true → i < n) → (f ≡ true → w ≡ t i) → (f ≡ false → i < n → order_of w (t i) ≡ Less) → n ≤ length items → u ≡ cond f (set items i k) items → j ≡ i + bit f → l ≡ k + 1 → Half t n j l new u
  half_next true j l b e less r s p q = rw (p, q) (taken (b refl) (e refl) (let z = b refl in omega arith) s)
  half_next false j l b e less r s p q = let z : j ≡ i = omega arith in rw (z, q) (left (less refl) s)

-- Items noted before stay, and the one that is noted is there.
pub has_old : (items u : List ℕ) (i j k a : ℕ) (f : Bool) → u ≡ cond f (set items i k) items → j ≡ i + bit f → Has items i a → Has u j a
has_old items u i j k a true s p h =
    let b = h.below in record { number = h.number; below = omega arith; is = put_other items u i k h.number s (λ e. omega arith) ∙ h.is }
has_old items u i j k a false s p h = let b = h.below in record { number = h.number; below = omega arith; is = ap (λ (z : List ℕ). get_or z h.number 0) s ∙ h.is }

pub has_new : (items u : List ℕ) (i j k : ℕ) (f : Bool) → f ≡ true → i < length items → u ≡ cond f (set items i k) items → j ≡ i + bit f → Has u j k
has_new items u i j k true t r s p = record { number = i; below = omega arith; is = ap (λ (z : List ℕ). get_or z i 0) s ∙ get_or-set_same items i k 0 r }
has_new items u i j k false t r s p = absurd (mathlib.Core.Bool.false≢true t)
