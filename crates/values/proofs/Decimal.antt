-- Laws of numbers: what digits and a point write, and the held form.
use Rattle.std.specs.Prelude.{Option, Some, None}
use Prim.Native.Nat.{ℕ, zero, suc, ◌+◌, ◌-◌, ◌*◌, ◌^◌, ◌≤◌, ◌<◌}
use mathlib.Core.Path.{◌≡◌, refl, ap, sym, ◌∙◌}
use mathlib.Core.List.{[], ◌∷◌}
use mathlib.Core.Bool.{Bool, true, false, cond, not, ◌&&◌, ◌||◌, and-eq-true_iff, true≢false}
use native.Mathlib.Omega.{arith}
use native.Mathlib.Numerals.{add-one}
use native.Mathlib.Nat.{pow-succ', pow-le-pow_right, add-zero, zero-add}
use lib.Dec.{leb, ltb, eqb}
use lib.IntN.{ℤ, pos, negsuc, neg_ℤ}
use lib.ListN.{length, get_or, take, drop, drop_of_length-le, length-drop}
use lib.Seq.{drop-cons, take_all}
use borrow.Author.Tests.{leb-true, ltb-true, ltb-false, le-leb, lt-leb, eq-eqb, ne_eqb, not-true, not-false}
use Rattle.text.specs.Bytes.{Bytes, all, part, span}
use Rattle.text.specs.Class.{is_digit}
use Rattle.values.specs.Values.{decimal, read_digits, read_fraction, in_thousandths, read_thousandths, read_number, map_option, base, biased}

-- Digits behind others make no number smaller.
decimal_ge : (s : Bytes) (n : ℕ) → n ≤ decimal n s
unfolding decimal
decimal_ge [] n = omega arith
decimal_ge (b ∷ s) n = omega (arith, decimal_ge s (10 * n + (b - 48)))

digit_le : (b : ℕ) → is_digit b ≡ true → b ≤ 57
unfolding is_digit
digit_le b h = leb-true b 57 ((and-eq-true_iff (leb 48 b) (leb b 57)).0 h).1

-- Each digit is one power of ten more.
pub decimal_lt : (s : Bytes) (n k : ℕ) → all is_digit s ≡ true → n < 10 ^ k → decimal n s < 10 ^ (k + length s)
unfolding decimal all
decimal_lt [] n k h l = rw (add-zero k) l
decimal_lt (b ∷ s) n k h l =
    let d = (and-eq-true_iff (is_digit b) (all is_digit s)).0 h in
    let u = digit_le b d.0 in
    let m : 10 * n + (b - 48) < 10 ^ suc k = rw (pow-succ' 10 k) (omega arith) in
    let e : k + suc (length s) ≡ suc k + length s = omega arith in
    rw e (decimal_lt s (10 * n + (b - 48)) (suc k) d.1 m)

-- 10^15, above every number that 15 digits write.
abbrev pub wholes : ℕ
wholes = 1_000_000_000_000_000

-- One digit, and the end.
module _ (s : Bytes) (n i : ℕ) where
  pub decimal_end : length s ≤ i → decimal n (drop i s) ≡ n
  unfolding decimal
  decimal_end h = rw (drop_of_length-le s h)

  pub decimal_step : i < length s → decimal n (drop i s) ≡ decimal (10 * n + (get_or s i 0 - 48)) (drop (i + 1) s)
  unfolding decimal
  decimal_step h = rw (drop-cons s i 0 h, add-one)

  pub step_fits : (decimal 0 s < wholes) × (decimal 0 s ≡ decimal n (drop i s)) → i < length s → 10 * n + (get_or s i 0 - 48) < wholes
  step_fits h k = omega (arith, decimal_step k, decimal_ge (drop (i + 1) s) (10 * n + (get_or s i 0 - 48)))

-- The ways to read digits.
module _ (s : Bytes) (r : Bool) (e : r ≡ all is_digit s) where
  pub digits_unfit : not (leb 1 (length s) && leb (length s) 15 && r) ≡ true → None ≡ (read_digits s)
  unfolding read_digits
  digits_unfit h = rw (← e, not-true (leb 1 (length s) && leb (length s) 15 && r) h)

  module _ (h : not (leb 1 (length s) && leb (length s) 15 && r) ≡ false) where
    pub digits_small : decimal 0 s < wholes
    digits_small =
        let t = (and-eq-true_iff (leb 1 (length s) && leb (length s) 15) r).0 (not-false _ h) in
        let l = leb-true (length s) 15 ((and-eq-true_iff (leb 1 (length s)) (leb (length s) 15)).0 t.0).1 in
        omega (arith, decimal_lt s 0 0 (sym e ∙ t.1) (omega arith), pow-le-pow_right {n = 10} (omega arith) {i = 0 + length s} {j = 15} (omega arith))

    pub digits_fit : (n : ℕ) → decimal 0 s ≡ n → Some n ≡ (read_digits s)
    unfolding read_digits
    digits_fit n q = rw (← e, not-false (leb 1 (length s) && leb (length s) 15 && r) h, q)

-- A number that digits write is below 10^15.
pub read_digits_small : (s : Bytes) (n : ℕ) → read_digits s ≡ Some n → n < wholes
unfolding read_digits
read_digits_small s n h = go (leb 1 (length s) && leb (length s) 15 && all is_digit s) refl
  where
    go : (t : Bool) → (leb 1 (length s) && leb (length s) 15 && all is_digit s) ≡ t → n < wholes
    go true e =
        let k : Some (decimal 0 s) ≡ Some n = rw e at h in
        let l : decimal 0 s ≡ n = cc in
        omega (arith, digits_small s (all is_digit s) refl (rw e))
    go false e =
        let k : None ≡ Some n = rw e at h in
        let l : ◌≡◌ {A = ℕ} 0 1 = cc in
        omega arith

-- What stands behind the digits is less than 1.
pub decimal_short : (s : Bytes) (n : ℕ) → read_digits s ≡ Some n → n < 10 ^ length s
unfolding read_digits
decimal_short s n h = go (leb 1 (length s) && leb (length s) 15) (all is_digit s) refl h
  where
    go : (a b : Bool) → all is_digit s ≡ b → cond (a && b) (Some (decimal 0 s)) None ≡ Some n → n < 10 ^ length s
    go true true e f = let q : decimal 0 s ≡ n = cc in rw (zero-add, q) at (decimal_lt s 0 0 e (omega arith))
    go true false e f = absurd (let l : ◌≡◌ {A = ℕ} 0 1 = cc in omega arith)
    go false b e f = absurd (let l : ◌≡◌ {A = ℕ} 0 1 = cc in omega arith)

-- k digits behind the point, up to three, as thousandths.
scaled_small : (k n : ℕ) → k ≤ 3 → n < 10 ^ k → n * 10 ^ (3 - k) < 1000
scaled_small zero n l h = omega arith
scaled_small (suc zero) n l h = omega arith
scaled_small (suc (suc zero)) n l h = omega arith
scaled_small (suc (suc (suc zero))) n l h = omega arith
scaled_small (suc (suc (suc (suc k)))) n l h = absurd (omega arith)

pub fraction_small : (s : Bytes) (m : ℕ) → read_fraction s ≡ Some m → m < 1000
unfolding read_fraction
fraction_small [] m h = let q : ◌≡◌ {A = ℕ} 0 m = cc in omega arith
fraction_small (b ∷ s) m h = go (eqb b 46) (leb (length s) 3) refl h
  where
    go : (t u : Bool) → leb (length s) 3 ≡ u → cond (t && u) (map_option (λ n. n * 10 ^ (3 - length s)) (read_digits s)) None ≡ Some m → m < 1000
    go true true e f = mapped (read_digits s) refl f
      where
        mapped : (o : Option ℕ) → read_digits s ≡ o → map_option (λ n. n * 10 ^ (3 - length s)) o ≡ Some m → m < 1000
        mapped None d g = absurd (let l : ◌≡◌ {A = ℕ} 0 1 = cc in omega arith)
        mapped (Some n) d g = let q : n * 10 ^ (3 - length s) ≡ m = cc in rw q at (scaled_small (length s) n (leb-true (length s) 3 e) (decimal_short s n d))
    go true false e f = absurd (let l : ◌≡◌ {A = ℕ} 0 1 = cc in omega arith)
    go false u e f = absurd (let l : ◌≡◌ {A = ℕ} 0 1 = cc in omega arith)

pub read_thousandths_small : (s : Bytes) (n : ℕ) → read_thousandths s ≡ Some n → n < base
unfolding read_thousandths
read_thousandths_small s n h = go (read_digits (take (span is_digit s) s)) (read_fraction (drop (span is_digit s) s)) refl refl h
  where
    go : (a b : Option ℕ) → read_digits (take (span is_digit s) s) ≡ a → read_fraction (drop (span is_digit s) s) ≡ b → in_thousandths a b ≡ Some n → n < base
    go None b d e f = absurd (let l : ◌≡◌ {A = ℕ} 0 1 = cc in omega arith)
    go (Some w) None d e f = absurd (let l : ◌≡◌ {A = ℕ} 0 1 = cc in omega arith)
    go (Some w) (Some m) d e f = let q : 1000 * w + m ≡ n = cc in omega (arith, q, read_digits_small _ w d, fraction_small _ m e)

-- Between -10^18 and 10^18.
abbrev pub Small : ℤ → Type 0
Small (pos n) = n < base
Small (negsuc n) = suc n < base

-- What the bytes write is small.
mapped_small : (f : ℕ → ℤ) (o : Option ℕ) (z : ℤ) → ((n : ℕ) → o ≡ Some n → n < base) → ((n : ℕ) → n < base → Small (f n)) → map_option f o ≡ Some z → Small z
mapped_small f None z h k e = let l : ◌≡◌ {A = ℕ} 0 1 = cc in absurd (omega arith)
mapped_small f (Some n) z h k e = let q : f n ≡ z = cc in rw q at (k n (h n refl))

small_minus : (n : ℕ) → n < base → Small (neg_ℤ (pos n))
small_minus zero h = h
small_minus (suc n) h = h

pub read_small : (s : Bytes) (z : ℤ) → read_number s ≡ Some z → Small z
unfolding read_number
read_small [] z h = let l : ◌≡◌ {A = ℕ} 0 1 = cc in absurd (omega arith)
read_small (b ∷ s) z h = go (eqb b 45) h
  where
    go : (t : Bool) → cond t (map_option (λ n. neg_ℤ (pos n)) (read_thousandths s)) (map_option pos (read_thousandths (b ∷ s))) ≡ Some z → Small z
    go true e = mapped_small (λ n. neg_ℤ (pos n)) (read_thousandths s) z (read_thousandths_small s) small_minus e
    go false e = mapped_small pos (read_thousandths (b ∷ s)) z (read_thousandths_small (b ∷ s)) (λ n l. l) e

pub biased_minus : (n : ℕ) → biased (neg_ℤ (pos n)) ≡ base - n
biased_minus zero = refl
biased_minus (suc n) = refl

-- With and without a minus.
minus_is : (s : Bytes) → get_or s 0 0 ≡ 45 → read_number s ≡ map_option (λ n. neg_ℤ (pos n)) (read_thousandths (part s 1 (length s)))
unfolding read_number
minus_is [] h = absurd (omega arith)
minus_is (b ∷ s) h = rw (eq-eqb b 45 h, take_all (suc (length s)) s (omega arith))

plain_is : (s : Bytes) → (get_or s 0 0 ≡ 45 → ⊥) → read_number s ≡ map_option pos (read_thousandths s)
unfolding read_number read_thousandths read_digits read_fraction span
plain_is [] h = refl
plain_is (b ∷ s) h = rw (ne_eqb b 45 h)

module _ (f : ℕ → ℤ) (r : Option ℕ) where
  mapped_read : (n : ℕ) (o : Option ℕ) → r ≡ o → r ≡ Some n → Some (biased (f n)) ≡ (map_option biased (map_option f o))
  mapped_read n None e g = cc
  mapped_read n (Some m) e g = let q : n ≡ m = cc in rw q

  mapped_unfit : (o : Option ℕ) → r ≡ o → r ≡ None → None ≡ (map_option biased (map_option f o))
  mapped_unfit None e g = refl
  mapped_unfit (Some m) e g = cc

-- The ways to read a number.
module _ (s : Bytes) (b : ℕ) (r : Option ℕ) (p : b ≡ get_or s 0 0) where
  module _ (t : Bytes) (q : b ≡ 45) (u : t ≡ part s 1 (length s)) (e : r ≡ (read_thousandths t)) where
    pub minus_read : (n : ℕ) → r ≡ Some n → Some (base - n) ≡ (map_option biased (read_number s))
    minus_read n g = rw (minus_is s (sym p ∙ q), ← u, ← biased_minus n) (mapped_read (λ k. neg_ℤ (pos k)) r n (read_thousandths t) e g)

    pub minus_unfit : r ≡ None → None ≡ (map_option biased (read_number s))
    minus_unfit g = rw (minus_is s (sym p ∙ q), ← u) (mapped_unfit (λ k. neg_ℤ (pos k)) r (read_thousandths t) e g)

  module _ (q : b ≡ 45 → ⊥) (e : r ≡ (read_thousandths s)) where
    pub plain_read : (n : ℕ) → r ≡ Some n → Some (base + n) ≡ (map_option biased (read_number s))
    plain_read n g = rw (plain_is s (λ k. q (p ∙ k))) (mapped_read pos r n (read_thousandths s) e g)

    pub plain_unfit : r ≡ None → None ≡ (map_option biased (read_number s))
    plain_unfit g = rw (plain_is s (λ k. q (p ∙ k))) (mapped_unfit pos r (read_thousandths s) e g)

-- What is told to be read is below what bounds it.
pub read_below : (o : Option ℕ) (b : ℕ) → ((m : ℕ) → o ≡ Some m → m < b) → (r : Option ℕ) (n : ℕ) → r ≡ o → r ≡ Some n → n < b
read_below None b small r n e g = absurd (let l : ◌≡◌ {A = ℕ} 0 1 = cc in omega arith)
read_below (Some m) b small r n e g = let l : m ≡ n = cc in rw l at (small m refl)

pub ruleset ways = (minus_read, minus_unfit, plain_read, plain_unfit)

-- The ways to read what stands behind the digits: nothing, no point or too many digits, no digits, some.
pub fraction_none : (s : Bytes) → length s ≡ 0 → Some 0 ≡ (read_fraction s)
unfolding read_fraction
fraction_none [] h = refl
fraction_none (b ∷ s) h = absurd (omega arith)

-- ltb is the other of leb.
ltb_not : (a b : ℕ) → not (leb b a) ≡ ltb a b
ltb_not a b = go (ltb a b) refl
  where
    go : (t : Bool) → ltb a b ≡ t → not (leb b a) ≡ t
    go true e = rw (lt-leb b a (ltb-true a b e))
    go false e = rw (le-leb b a (ltb-false a b e))

-- It begins with a point.
fraction_is : (b : ℕ) (s : Bytes) → read_fraction (b ∷ s) ≡ cond (eqb b 46 && leb (length s) 3) (map_option (λ n. n * 10 ^ (3 - length s)) (read_digits s)) None
unfolding read_fraction
fraction_is b s = refl

no_fraction : (a l : Bool) → not a || not l ≡ true → (o : Option ℕ) → cond (a && l) o None ≡ None
no_fraction true true h o = absurd (true≢false (sym h))
no_fraction true false h o = refl
no_fraction false l h o = refl

the_fraction : (a l : Bool) → not a || not l ≡ false → (o : Option ℕ) → cond (a && l) o None ≡ o
the_fraction true true h o = refl
the_fraction true false h o = absurd (true≢false h)
the_fraction false l h o = absurd (true≢false h)

module _ (s : Bytes) (b : ℕ) (t : Bytes) (some-there : length s ≡ 0 → ⊥) (p : b ≡ get_or s 0 0) (u : t ≡ part s 1 (length s)) where
  parted : read_fraction s ≡ cond (eqb b 46 && leb (length t) 3) (map_option (λ n. n * 10 ^ (3 - length t)) (read_digits t)) None
  parted = go s some-there p u
    where
      go : (s : Bytes) → (length s ≡ 0 → ⊥) → b ≡ get_or s 0 0 → t ≡ part s 1 (length s) → read_fraction s ≡ cond (eqb b 46 && leb (length t) 3) (map_option (λ n. n * 10 ^ (3 - length t)) (read_digits t)) None
      go [] f p u = absurd (f refl)
      go (x ∷ s) f p u = let e : t ≡ s = u ∙ take_all (suc (length s)) s (omega arith) in rw (p, e) (fraction_is x s)

  pub fraction_unfit : (not (eqb b 46) || ltb 3 (length t)) ≡ true → None ≡ (read_fraction s)
  fraction_unfit h = rw (parted, no_fraction (eqb b 46) (leb (length t) 3) (ap (λ (c : Bool). not (eqb b 46) || c) (ltb_not 3 (length t)) ∙ h) (map_option (λ n. n * 10 ^ (3 - length t)) (read_digits t)))

  module _ (fit : (not (eqb b 46) || ltb 3 (length t)) ≡ false) (r : Option ℕ) (e : r ≡ (read_digits t)) where
    mapped : read_fraction s ≡ map_option (λ n. n * 10 ^ (3 - length t)) (read_digits t)
    mapped = parted ∙ the_fraction (eqb b 46) (leb (length t) 3) (ap (λ (c : Bool). not (eqb b 46) || c) (ltb_not 3 (length t)) ∙ fit) (map_option (λ n. n * 10 ^ (3 - length t)) (read_digits t))

    pub fraction_bad : r ≡ None → None ≡ (read_fraction s)
    fraction_bad g = rw mapped (go (read_digits t) e)
      where
        go : (o : Option ℕ) → r ≡ o → None ≡ (map_option (λ n. n * 10 ^ (3 - length t)) o)
        go None f = refl
        go (Some m) f = cc

    pub fraction_read : (n k : ℕ) → r ≡ Some n → k ≡ 10 ^ (3 - length t) → Some (n * k) ≡ (read_fraction s)
    fraction_read n k g f = rw (mapped, f) (go (read_digits t) e)
      where
        go : (o : Option ℕ) → r ≡ o → Some (n * 10 ^ (3 - length t)) ≡ (map_option (λ n. n * 10 ^ (3 - length t)) o)
        go None f = cc
        go (Some m) f = let q : n ≡ m = cc in rw q

-- The ways to read a number without its sign.
module _ (s t : Bytes) (k : ℕ) (w : Option ℕ) (p : k ≡ 0 + span is_digit s) (q : t ≡ part s 0 k) (e : w ≡ (read_digits t)) where
  front : t ≡ take (span is_digit s) s
  front = q ∙ ap (λ (j : ℕ). part s 0 j) (p ∙ zero-add (span is_digit s))

  pub whole_unfit : w ≡ None → None ≡ (read_thousandths s)
  unfolding read_thousandths
  whole_unfit g = rw (← front) (go (read_digits t) e)
    where
      go : (o : Option ℕ) → w ≡ o → None ≡ (in_thousandths o (read_fraction (drop (span is_digit s) s)))
      go None f = refl
      go (Some m) f = cc

  module _ (n : ℕ) (g : w ≡ Some n) (u : Bytes) (v : u ≡ part s k (length s)) (r : Option ℕ) (f : r ≡ (read_fraction u)) where
    rest : u ≡ drop (span is_digit s) s
    rest = v ∙ ap (λ (j : ℕ). part s j (length s)) (p ∙ zero-add (span is_digit s)) ∙ take_all (length s) (drop (span is_digit s) s) (omega (arith, length-drop (span is_digit s) s))

    both : (c : Option ℕ) → ((m : ℕ) → (Some m) ≡ r → c ≡ Some (1000 * n + m)) → (r ≡ None → c ≡ None) → c ≡ (read_thousandths s)
    unfolding read_thousandths
    both c read unread = rw (← front, ← rest) (go (read_digits t) (read_fraction u) e f)
      where
        go : (a b : Option ℕ) → w ≡ a → r ≡ b → c ≡ (in_thousandths a b)
        go None b h k = cc
        go (Some m) None h k = unread k
        go (Some m) (Some j) h k = let z : n ≡ m = cc in read j (sym k) ∙ rw z

    pub behind_unfit : r ≡ None → None ≡ (read_thousandths s)
    behind_unfit h = both None (λ m j. cc) (λ j. refl)

    pub thousandths_read : (m : ℕ) → r ≡ Some m → Some (1000 * n + m) ≡ (read_thousandths s)
    thousandths_read m h = both (Some (1000 * n + m)) (λ j i. let z : j ≡ m = cc in rw z) (λ j. cc)

-- What the last of so many digits counts.
module _ (k : ℕ) where
  pub counts_none : k ≡ 0 → 1000 ≡ 10 ^ (3 - k)
  counts_none e = rw e

  pub counts_tenths : k ≡ 1 → 100 ≡ 10 ^ (3 - k)
  counts_tenths e = rw e

  pub counts_hundredths : k ≡ 2 → 10 ≡ 10 ^ (3 - k)
  counts_hundredths e = rw e

  pub counts_thousandths : (k ≡ 0 → ⊥) → (k ≡ 1 → ⊥) → (k ≡ 2 → ⊥) → 1 ≡ 10 ^ (3 - k)
  counts_thousandths a b c = go k a b c
    where
      go : (k : ℕ) → (k ≡ 0 → ⊥) → (k ≡ 1 → ⊥) → (k ≡ 2 → ⊥) → 1 ≡ 10 ^ (3 - k)
      go zero a b c = absurd (a refl)
      go (suc zero) a b c = absurd (b refl)
      go (suc (suc zero)) a b c = absurd (c refl)
      go (suc (suc (suc k))) a b c = let e : 3 - suc (suc (suc k)) ≡ 0 = omega arith in rw e

pub scaled_fits : (k n m : ℕ) → n < wholes → m ≡ 10 ^ (3 - k) → n * m < 2 ^ 64
scaled_fits zero n m h e = rw e (omega arith)
scaled_fits (suc zero) n m h e = rw e (omega arith)
scaled_fits (suc (suc zero)) n m h e = rw e (omega arith)
scaled_fits (suc (suc (suc k))) n m h e = let z : 3 - suc (suc (suc k)) ≡ 0 = omega arith in rw (e, z) (omega arith)

pub ruleset thousandths = (counts_none, counts_tenths, counts_hundredths, counts_thousandths, fraction_none, fraction_unfit, fraction_bad, fraction_read, whole_unfit, behind_unfit, thousandths_read)
