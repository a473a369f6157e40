-- What the functions on terms answer, by what they called.
use Prim.Native.Nat.{ℕ, zero, suc, ◌+◌, ◌*◌, ◌-◌}
use mathlib.Core.Path.{◌≡◌, refl, sym, ap, ◌∙◌}
use mathlib.Core.Bool.{Bool, true, false, cond, ◌&&◌}
use mathlib.Core.List.{List}
use native.Mathlib.Omega.{arith}
use lib.Dec.{ltb, lit≤}
use lib.ListN.{drop}
use Rattle.text.specs.Bytes.{Bytes, numbers, part}
use Rattle.text.specs.Keys.{key_to}
use Rattle.std.specs.declared.cmp.Ordering.TheVariants.{Less, Equal, Greater}
use Rattle.text.proofs.Keys.{Small, part_small, key_take, key_order}
use Rattle.sorting.specs.Ascending.{is_less}
use Rattle.register_form.specs.Form.{term_at}
use Rattle.buffer.specs.Tests.{all_to}
use Rattle.register_form_test.specs.Loops.{climbs}
use Rattle.register_form_test.specs.Stages.{judged_term, term_test}
use Rattle.register_form_test.specs.declared.Judged.{Judged}
use Rattle.buffer.proofs.Testing.{all_more}

pub less_number : (x y : ℕ) → is_less (numbers x y) ≡ ltb x y
unfolding numbers
less_number x y = go (ltb x y) (ltb y x)
  where
    go : (p q : Bool) → is_less (cond p Less (cond q Greater Equal)) ≡ p
    go true q = refl
    go false true = refl
    go false false = refl

module _ (j k : Judged) (e : j ≡ k) where
  pub text_of : j.text ≡ k.text
  text_of = rw e

  pub bytes_of : j.bytes ≡ k.bytes
  bytes_of = rw e

-- Terms that differ in their first eight bytes are ordered by these.
pub term_keyed : (h : Bytes) → Small h → (f w x y : ℕ) → (f ≡ 0 → ⊥) → w ≡ 5322 + 9 * (f - 1) → x ≡ key_to 8 (drop w h) → y ≡ key_to 8 (drop (w + 9) h) → (x ≡ y → ⊥) → ltb x y ≡ climbs (term_at h) f
unfolding climbs term_at
term_keyed h s zero w x y n e p q d = absurd (n refl)
term_keyed h s (suc f) w x y n e p q d =
    let v : w ≡ 5322 + 9 * f = omega arith in
    let z : w + 9 ≡ 5322 + 9 * suc f = omega arith in
    let a : x ≡ key_to 8 (part h (5322 + 9 * f) 9) = p ∙ rw v (sym (key_take 8 9 (drop (5322 + 9 * f) h) (lit≤ tt))) in
    let b : y ≡ key_to 8 (part h (5322 + 9 * suc f) 9) = q ∙ rw z (sym (key_take 8 9 (drop (5322 + 9 * suc f) h) (lit≤ tt))) in
    sym
    (ap is_less (key_order (part h (5322 + 9 * f) 9) (part h (5322 + 9 * suc f) 9) (part_small h s (5322 + 9 * f) 9) (part_small h s (5322 + 9 * suc f) 9) 8 (λ k. d (a ∙ k ∙ sym b)))
    ∙ rw (← a, ← b) (less_number x y))

module _ (h : Bytes) (classes : List ℕ) (f : ℕ) (j : Judged) (e : j ≡ judged_term h classes f) where
  pub term_more : (ok t : Bool) → ok ≡ all_to f (term_test h classes) → t ≡ climbs (term_at h) f → (ok && (j.ok && t)) ≡ all_to (f + 1) (term_test h classes)
  unfolding term_test
  term_more ok t g k = all_more (term_test h classes) f ok (j.ok && t) g (rw (e, k))
