-- How many digits a number has.
use Prim.Native.Nat.{ℕ, zero, suc, ◌+◌, ◌-◌, ◌*◌, ◌/◌, ◌%◌, ◌≤◌, ◌<◌, ◌^◌}
use mathlib.Core.Path.{◌≡◌, refl, sym, ap, ◌∙◌}
use mathlib.Core.Bool.{Bool, true, false, cond}
use mathlib.Core.List.{[], ◌∷◌}
use native.Mathlib.Omega.{arith}
use native.Mathlib.Nat.{pow-succ', div-lt_iff_lt-mul}
use lib.Dec.{ltb, eqb}
use lib.ListN.{length, length-append}
use borrow.Author.Tests.{lt-ltb, le-ltb, ltb-true, ltb-false, eq-eqb, ne_eqb, eqb-true, eqb-false}
use Rattle.values.specs.Values.{base}
use Rattle.values.specs.Spelling.{digits_within, digits, spell_fraction, spell_thousandths, spell_number, number_from}

step : (k n : ℕ) → 10 ≤ n → length (digits_within (suc k) n) ≡ length (digits_within k (n / 10)) + 1
unfolding digits_within
step k n h = rw (le-ltb n 10 h, digits_within, length-append)

-- What bounds the digits does not matter where it is above the number.
within : (k j n : ℕ) → n < k → n < j → length (digits_within k n) ≡ length (digits_within j n)
unfolding digits_within
within zero j n a b = absurd (omega arith)
within (suc k) zero n a b = absurd (omega arith)
within (suc k) (suc j) n a b = go (ltb n 10) refl (within k j (n / 10))
  where
    go : (t : Bool) → ltb n 10 ≡ t → (n / 10 < k → n / 10 < j → length (digits_within k (n / 10)) ≡ length (digits_within j (n / 10))) → length (digits_within (suc k) n) ≡ length (digits_within (suc j) n)
    go true e ih = rw (e, digits_within)
    go false e ih =
        let c : 10 ≤ n = omega (arith, ltb-false n 10 e) in
        step k n c ∙ rw (ih (omega arith) (omega arith)) (sym (step j n c))

pub one_digit : (n : ℕ) → n < 10 → length (digits n) ≡ 1
unfolding digits digits_within
one_digit n h = rw (lt-ltb n 10 h, digits_within)

pub more_digits : (n : ℕ) → 10 ≤ n → length (digits n) ≡ length (digits (n / 10)) + 1
unfolding digits
more_digits n h = step n n h ∙ ap (λ (k : ℕ). k + 1) (within n (suc (n / 10)) (n / 10) (omega arith) (omega arith))

four_more : (n : ℕ) → 1000 ≤ n → length (digits n) ≡ length (digits (n / 10 / 10 / 10)) + 3
four_more n h = omega (arith, more_digits n (omega arith), more_digits (n / 10) (omega arith), more_digits (n / 10 / 10) (omega arith))

pub two_digits_lem : (n : ℕ) → 10 ≤ n → n < 100 → 2 ≡ length (digits n)
two_digits_lem n a b = omega (arith, more_digits n a, one_digit (n / 10) (omega arith))

pub three_digits : (n : ℕ) → 100 ≤ n → n < 1000 → 3 ≡ length (digits n)
three_digits n a b = omega (arith, more_digits n (omega arith), two_digits_lem (n / 10) (omega arith) (omega arith))

pub four_digits : (n : ℕ) → 1000 ≤ n → n < 10000 → 4 ≡ length (digits n)
four_digits n a b = omega (arith, more_digits n (omega arith), three_digits (n / 10) (omega arith) (omega arith))

-- Four are taken off.
pub four_off : (n rest k : ℕ) → k + length (digits rest) ≡ length (digits n) → 10000 ≤ rest → k + 4 + length (digits (rest / 10000)) ≡ length (digits n)
four_off n rest k e h =
    let d : rest / 10 / 10 / 10 / 10 ≡ rest / 10000 = omega arith in
    omega (arith, e, four_more rest (omega arith), more_digits (rest / 10 / 10 / 10) (omega arith), ap (λ (m : ℕ). length (digits m)) d)

-- A number below 10^k has no more than k digits, but for 0, which has one.
digits_most : (k n : ℕ) → n < 10 ^ suc k → length (digits n) ≤ suc k
digits_most zero n h = omega (arith, one_digit n h)
digits_most (suc k) n h =
    let d : n < 10 ^ suc k * 10 = omega (arith, pow-succ' 10 (suc k)) in
    go (ltb n 10) refl (digits_most k (n / 10) ((div-lt_iff_lt-mul {k = 10} {x = n} {y = 10 ^ suc k} (omega arith)).1 d))
  where
    go : (t : Bool) → ltb n 10 ≡ t → length (digits (n / 10)) ≤ suc k → length (digits n) ≤ suc (suc k)
    go true e l = omega (arith, one_digit n (ltb-true n 10 e))
    go false e l = omega (arith, more_digits n (ltb-false n 10 e))

pub few : (n : ℕ) → n < 18446744073709551616 → length (digits n) ≤ 20
few n h = digits_most 19 n (omega arith)

-- What the functions answer.
module _ (n : ℕ) where
  pub is_one : n < 10 → n < 10000 → 1 ≡ length (digits n)
  is_one a b = sym (one_digit n a)

  pub is_two_lem : 10 ≤ n → n < 100 → n < 10000 → 2 ≡ length (digits n)
  is_two_lem a b c = two_digits_lem n a b

  pub is_three : 100 ≤ n → n < 1000 → n < 10000 → 3 ≡ length (digits n)
  is_three a b c = three_digits n a b

  pub is_four : 1000 ≤ n → n < 10000 → 4 ≡ length (digits n)
  is_four a b = four_digits n a b

  pub counted : (rest k r : ℕ) → k + length (digits rest) ≡ length (digits n) → rest < 10000 → (rest < 10000 → r ≡ length (digits rest)) → k + r ≡ length (digits n)
  counted rest k r e h f = omega (arith, e, f h)

-- How long the digits behind a point are.
module _ (n : ℕ) where
  pub fraction_empty : n ≡ 0 → 0 ≡ length (spell_fraction n)
  unfolding spell_fraction
  fraction_empty h = rw (eq-eqb n 0 h)

  module _ (some : n ≡ 0 → ⊥) where
    pub fraction_tenths : n % 100 ≡ 0 → 2 ≡ length (spell_fraction n)
    unfolding spell_fraction
    fraction_tenths h = rw (ne_eqb n 0 some, eq-eqb (n % 100) 0 h)

    module _ (more : n % 100 ≡ 0 → ⊥) where
      pub fraction_hundredths : n % 10 ≡ 0 → 3 ≡ length (spell_fraction n)
      unfolding spell_fraction
      fraction_hundredths h = rw (ne_eqb n 0 some, ne_eqb (n % 100) 0 more, eq-eqb (n % 10) 0 h)

      pub fraction_thousandths : (n % 10 ≡ 0 → ⊥) → 4 ≡ length (spell_fraction n)
      unfolding spell_fraction
      fraction_thousandths h = rw (ne_eqb n 0 some, ne_eqb (n % 100) 0 more, ne_eqb (n % 10) 0 h)

pub fraction_most : (n : ℕ) → length (spell_fraction n) ≤ 4
unfolding spell_fraction
fraction_most n = go (eqb n 0) (eqb (n % 100) 0) (eqb (n % 10) 0)
  where
    go : (a b c : Bool) → length (cond a [] (46 ∷ (48 + n / 100) ∷ cond b [] ((48 + n / 10 % 10) ∷ cond c [] ((48 + n % 10) ∷ [])))) ≤ 4
    go true b c = omega arith
    go false true c = omega arith
    go false false true = omega arith
    go false false false = omega arith

pub tenths_most : (n : ℕ) → n % 100 ≡ 0 → length (spell_fraction n) ≤ 2
tenths_most n h = go (eqb n 0) refl
  where
    go : (t : Bool) → eqb n 0 ≡ t → length (spell_fraction n) ≤ 2
    go true e = omega (arith, fraction_empty n (eqb-true n 0 e))
    go false e = omega (arith, fraction_tenths n (eqb-false n 0 e) h)

pub hundredths_most : (n : ℕ) → n % 10 ≡ 0 → length (spell_fraction n) ≤ 3
hundredths_most n h = go (eqb n 0) refl (eqb (n % 100) 0) refl
  where
    go : (t : Bool) → eqb n 0 ≡ t → (u : Bool) → eqb (n % 100) 0 ≡ u → length (spell_fraction n) ≤ 3
    go true e u f = omega (arith, fraction_empty n (eqb-true n 0 e))
    go false e true f = omega (arith, fraction_tenths n (eqb-false n 0 e) (eqb-true (n % 100) 0 f))
    go false e false f = omega (arith, fraction_hundredths n (eqb-false n 0 e) (eqb-false (n % 100) 0 f) h)

pub thousandths_long : (n a b : ℕ) → a ≡ length (digits (n / 1000)) → b ≡ length (spell_fraction (n % 1000)) → a + b ≡ length (spell_thousandths n)
unfolding spell_thousandths
thousandths_long n a b e f = rw (e, f) (sym (length-append (digits (n / 1000)) (spell_fraction (n % 1000))))

-- At most 10^k thousands are at most k digits and what stands behind a point.
thousandths_few : (k n : ℕ) → n / 1000 < 10 ^ suc k → length (spell_thousandths n) ≤ suc k + 4
thousandths_few k n h = omega (arith, thousandths_long n _ _ refl refl, digits_most k (n / 1000) h, fraction_most (n % 1000))

pub below_zero : (c r : ℕ) → c < base → r ≡ length (spell_thousandths (base - c)) → 1 + r ≡ length (spell_number (number_from c))
unfolding number_from spell_number
below_zero c r h e =
    let m : base - c ≡ suc (base - suc c) = omega arith in
    rw (lt-ltb c base h, spell_number) (omega (arith, e, ap (λ (n : ℕ). length (spell_thousandths n)) m))

pub above_zero : (c r : ℕ) → base ≤ c → r ≡ length (spell_thousandths (c - base)) → r ≡ length (spell_number (number_from c))
unfolding number_from spell_number
above_zero c r h e = rw (le-ltb c base h, spell_number) e

pub below_few : (c : ℕ) → length (spell_thousandths (base - c)) ≤ 20
below_few c = thousandths_few 15 (base - c) (omega arith)

pub above_few : (c : ℕ) → c < 18446744073709551616 → length (spell_thousandths (c - base)) ≤ 21
above_few c h = thousandths_few 16 (c - base) (omega arith)

pub spelled_few : (c : ℕ) → c < 18446744073709551616 → length (spell_number (number_from c)) ≤ 21
spelled_few c h = go (ltb c base) refl
  where
    go : (t : Bool) → ltb c base ≡ t → length (spell_number (number_from c)) ≤ 21
    go true e = omega (arith, below_zero c (length (spell_thousandths (base - c))) (ltb-true c base e) refl, below_few c)
    go false e = omega (arith, above_zero c (length (spell_thousandths (c - base))) (ltb-false c base e) refl, above_few c h)

pub ruleset lengths = (is_one, is_two_lem, is_three, is_four, fraction_empty, fraction_tenths, fraction_hundredths, fraction_thousandths, thousandths_long, below_zero, above_zero)
