-- Texts that differ in their first bytes are ordered by these.
use Prim.Native.Nat.{ℕ, zero, suc, ◌+◌, ◌*◌, ◌-◌, ◌/◌, ◌^◌, ◌≤◌, ◌<◌}
use mathlib.Core.Path.{◌≡◌, refl, ap, sym, ◌∙◌}
use mathlib.Core.Bool.{Bool, true, ◌&&◌}
use native.Mathlib.Nat.{add-zero, add-suc, div-one}
use native.Mathlib.Omega.{arith}
use lib.Dec.{ltb}
use lib.ListN.{length, get_or, drop, length-take}
use lib.Pow.{shr-shr}
use lib.Seq.{get_or-drop}
use borrow.Author.Tests.{ltb-true}
use Rattle.text.specs.Bytes.{Bytes, order_of}
use Rattle.text.specs.Keys.{key_to}
use Rattle.text.proofs.Keys.{Small, part_small, key_take, key_order}
use Rattle.sorting.specs.Ascending.{is_less}
use Rattle.sorting.proofs.Canonical.{left_of, less_is_lt}
use Rattle.register_form.specs.Form.{text_start, text_at}
use Rattle.register_form_test.specs.Loops.{climbs}
use Rattle.register_form_test.proofs.TermWays.{less_number}
use Rattle.register_form_test.proofs.TextWays.{climbs_on}

-- Bytes behind the first n are shifted out of a key.
key_shift : (t : Bytes) → Small t → (n m : ℕ) → key_to (n + m) t / 2 ^ (8 * m) ≡ key_to n t
unfolding key_to
key_shift t s n zero = rw (add-zero n) (div-one (key_to n t))
key_shift t s n (suc m) =
    let e : 8 * suc m ≡ 8 + 8 * m = omega arith in
    let d : (256 * key_to (n + m) t + get_or t (n + m) 0) / 256 ≡ key_to (n + m) t = omega (arith, s (n + m)) in
    rw (add-suc n m, e) (sym (shr-shr (256 * key_to (n + m) t + get_or t (n + m) 0) 8 (8 * m)) ∙ rw d (key_shift t s n m))

pub key_is : (h : Bytes) → Small h → (at n r : ℕ) → n ≤ 8 → r ≡ key_to 8 (drop at h) → r / 2 ^ (64 - 8 * n) ≡ key_to n (drop at h)
key_is h s at n r l e =
    let a : 8 ≡ n + (8 - n) = omega arith in
    let b : 64 - 8 * n ≡ 8 * (8 - n) = omega arith in
    ap (λ (k : ℕ). r / 2 ^ k) b
    ∙ ap (λ (k : ℕ). k / 2 ^ (8 * (8 - n))) (e ∙ ap (λ (k : ℕ). key_to k (drop at h)) a)
    ∙ key_shift (drop at h) (λ i. rw (get_or-drop at h i 0) (s (at + i))) n (8 - n)

-- The test before the keys are read says that there is a byte.
pub some_byte : (n : ℕ) (a b : Bool) → (ltb 0 n && a && b) ≡ true → 0 < n
some_byte n a b e = ltb-true 0 n (left_of (ltb 0 n) a (left_of (ltb 0 n && a) b e))

module _ (h : Bytes) (small : Small h) where
  text_small : (x : ℕ) → Small (text_at h x)
  unfolding text_at
  text_small x = part_small h small (28492 + text_start h x) (text_start h (suc x) - text_start h x)

  key_text : (x n : ℕ) → n ≤ length (text_at h x) → key_to n (text_at h x) ≡ key_to n (drop (28492 + text_start h x) h)
  unfolding text_at
  key_text x n l =
      let d = drop (28492 + text_start h x) h in
      key_take n (text_start h (suc x) - text_start h x) d (omega (arith, length-take (text_start h (suc x) - text_start h x) d))

  pub text_keyed : (x n u u' v v' a b : ℕ) (s t : Bytes)
      → (x ≡ 0 → ⊥)
      → s ≡ text_at h (x - 1)
      → t ≡ text_at h x
      → n ≤ length s
      → n ≤ length t
      → u ≡ text_start h (x - 1)
      → u' ≡ 28492 + u
      → v ≡ text_start h x
      → v' ≡ 28492 + v
      → a ≡ key_to n (drop u' h)
      → b ≡ key_to n (drop v' h)
      → (a ≡ b → ⊥)
      → ltb a b ≡ climbs (text_at h) x
  text_keyed x n u u' v v' a b s t z e f k l p p' q q' m o d =
      let first : a ≡ key_to n s = m ∙ rw (p', p) (sym (key_text (x - 1) n (rw e at k))) ∙ ap (key_to n) (sym e) in
      let second : b ≡ key_to n t = o ∙ rw (q', q) (sym (key_text x n (rw f at l))) ∙ ap (key_to n) (sym f) in
      let order = key_order s t (rw e (text_small (x - 1))) (rw f (text_small x)) n (λ w. d (first ∙ w ∙ sym second)) in
      climbs_on (text_at h) x s t (order_of s t) (ltb a b) z e f refl (sym (less_is_lt (order_of s t) ∙ ap is_less order ∙ rw (← first, ← second) (less_number a b)))
