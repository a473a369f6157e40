-- Bits of numbers, and of lists of four.
use Prim.Native.Nat.{ℕ, zero, suc, ◌+◌, ◌-◌, ◌*◌, ◌/◌, ◌%◌, ◌^◌, ◌<◌}
use mathlib.Core.Path.{◌≡◌, refl, ap, ◌∙◌}
use mathlib.Core.Bool.{Bool, true, false, ◌&&◌, ◌||◌}
use mathlib.Core.List.{[], ◌∷◌}
use native.Mathlib.Nat.{zero-div, div_self, div-eq_of_lt, mul-div_cancel, pow-suc, add_comm}
use native.Mathlib.Omega.{arith}
use lib.Bits.{bit_and, bit_or, or_shr, or_mod, and_shr, and_mod}
use lib.Dec.{eqb, ltb}
use lib.ListN.{get_or}
use lib.Pow.{pow_pos, pow-lt, pow-add}
use borrow.Author.Tests.{eqb-true, eqb-false, ltb-true, ltb-false}
use Rattle.pageset.specs.Marks.{is_set}

low : (n : ℕ) → n % 2 < 2
low n = omega arith

-- A bit of two numbers put together.
or_digit : (x y : ℕ) → x < 2 → y < 2 → eqb (bit_or x y) 1 ≡ (eqb x 1 || eqb y 1)
or_digit zero zero a b = refl
or_digit zero (suc zero) a b = refl
or_digit (suc zero) zero a b = refl
or_digit (suc zero) (suc zero) a b = refl
or_digit zero (suc (suc y)) a b = absurd (omega arith)
or_digit (suc zero) (suc (suc y)) a b = absurd (omega arith)
or_digit (suc (suc x)) y a b = absurd (omega arith)

and_digit : (x y : ℕ) → x < 2 → y < 2 → eqb (bit_and x y) 1 ≡ (eqb x 1 && eqb y 1)
and_digit zero zero a b = refl
and_digit zero (suc zero) a b = refl
and_digit (suc zero) zero a b = refl
and_digit (suc zero) (suc zero) a b = refl
and_digit zero (suc (suc y)) a b = absurd (omega arith)
and_digit (suc zero) (suc (suc y)) a b = absurd (omega arith)
and_digit (suc (suc x)) y a b = absurd (omega arith)

pub or_set : (a b i : ℕ) → is_set (bit_or a b) i ≡ (is_set a i || is_set b i)
unfolding is_set
or_set a b i =
    ap (λ (n : ℕ). eqb (n % 2) 1) (or_shr a b i)
    ∙ ap (λ (n : ℕ). eqb n 1) (or_mod (a / 2 ^ i) (b / 2 ^ i) 1)
    ∙ or_digit (a / 2 ^ i % 2) (b / 2 ^ i % 2) (low (a / 2 ^ i)) (low (b / 2 ^ i))

pub and_set : (a b i : ℕ) → is_set (bit_and a b) i ≡ (is_set a i && is_set b i)
unfolding is_set
and_set a b i =
    ap (λ (n : ℕ). eqb (n % 2) 1) (and_shr a b i)
    ∙ ap (λ (n : ℕ). eqb n 1) (and_mod (a / 2 ^ i) (b / 2 ^ i) 1)
    ∙ and_digit (a / 2 ^ i % 2) (b / 2 ^ i % 2) (low (a / 2 ^ i)) (low (b / 2 ^ i))

pub none_set : (i : ℕ) → is_set 0 i ≡ false
unfolding is_set
none_set i = ap (λ (n : ℕ). eqb (n % 2) 1) (zero-div (2 ^ i))

-- A power of two has one bit.
pub one_set : (k i : ℕ) → is_set (2 ^ k) i ≡ eqb i k
unfolding is_set
one_set k i = go (eqb i k) refl (ltb i k) refl
  where
    above : (d : ℕ) → k ≡ i + suc d → 2 ^ k / 2 ^ i % 2 ≡ 0
    above d e =
        let p : 2 ^ k ≡ 2 ^ suc d * 2 ^ i = ap (λ (n : ℕ). 2 ^ n) (e ∙ add_comm i (suc d)) ∙ pow-add 2 (suc d) i in
        ap (λ (n : ℕ). n / 2 ^ i % 2) p ∙ ap (λ (n : ℕ). n % 2) (mul-div_cancel (2 ^ suc d) (pow_pos i)) ∙ omega (arith, pow-suc 2 d)

    go : (s : Bool) → eqb i k ≡ s → (t : Bool) → ltb i k ≡ t → eqb (2 ^ k / 2 ^ i % 2) 1 ≡ s
    go true e t f = let q : i ≡ k = eqb-true i k e in rw (q, div_self (pow_pos k))
    go false e true f = let l = ltb-true i k f in let d : k ≡ i + suc (k - suc i) = omega arith in ap (λ (n : ℕ). eqb n 1) (above (k - suc i) d)
    go false e false f =
        let l = ltb-false i k f in
        let n = eqb-false i k e in
        let m : k < i = omega arith in
        ap (λ (n : ℕ). eqb (n % 2) 1) (div-eq_of_lt (pow-lt m))

-- One of four.
pub four : (f : ℕ → ℕ) (q : ℕ) → q < 4 → get_or (f 0 ∷ f 1 ∷ f 2 ∷ f 3 ∷ []) q 0 ≡ f q
four f zero l = refl
four f (suc zero) l = refl
four f (suc (suc zero)) l = refl
four f (suc (suc (suc zero))) l = refl
four f (suc (suc (suc (suc q)))) l = absurd (omega arith)
