-- Laws of days: a code keeps their order and loses nothing, what is read is a day, and a day has one text.
use Rattle.std.specs.Prelude.{Option, Some, None}
use Prim.Native.Nat.{ℕ, ◌+◌, ◌-◌, ◌*◌, ◌/◌, ◌%◌, ◌≤◌, ◌<◌}
use mathlib.Core.Path.{◌≡◌, refl, ap, sym, ◌∙◌, subst}
use mathlib.Core.Bool.{Bool, true, false, cond, not, ◌&&◌, ◌||◌, and-eq-true_iff}
use mathlib.Core.List.{[], ◌∷◌, ◌++◌}
use native.Mathlib.Omega.{arith}
use lib.Dec.{leb, ltb, eqb}
use lib.ListN.{length, get_or, drop, drop_of_length-le}
use lib.Seq.{drop-cons}
use borrow.Author.Tests.{leb-true, ltb-true, ltb-false, eqb-true, eq-eqb, ne_eqb}
use Rattle.text.specs.Bytes.{Bytes, bytes, all, part, numbers}
use Rattle.text.specs.Class.{is_digit}
use Rattle.text.proofs.Laws.{numbers_less, numbers_greater, numbers_equal}
use Rattle.values.specs.Values.{decimal, read_digits, map_option}
use Rattle.values.specs.Dates.{Date, date, is_leap_year, days_in, is_day, or_else, order_dates, date_code, date_from, real_day, read_date, two_digits, spell_date}

-- A day's numbers are small.
month_le : (y m : ℕ) → days_in y m ≤ 31
unfolding days_in
month_le y m = go (eqb m 2) (is_leap_year y) (eqb m 4 || eqb m 6 || eqb m 9 || eqb m 11)
  where
    go : (a b c : Bool) → cond a (cond b 29 28) (cond c 30 31) ≤ 31
    go true true c = omega arith
    go true false c = omega arith
    go false b true = omega arith
    go false b false = omega arith

pub day_small : (d : Date) → is_day d ≡ true → (d.year ≤ 9999) × (d.month ≤ 12) × (d.day ≤ 31)
unfolding is_day
day_small d h =
    let f = (and-eq-true_iff _ (leb d.day (days_in d.year d.month))).0 h in
    let e = (and-eq-true_iff _ (leb 1 d.day)).0 f.0 in
    let m = (and-eq-true_iff _ (leb d.month 12)).0 e.0 in
    let l = (and-eq-true_iff _ (leb 1 d.month)).0 m.0 in
    let y = (and-eq-true_iff (leb 1583 d.year) (leb d.year 9999)).0 l.0 in (
      leb-true d.year 9999 y.1,
      leb-true d.month 12 m.1,
      omega (arith, month_le d.year d.month, leb-true d.day (days_in d.year d.month) f.1),
    )

-- The date that a code tells has that code, and a code has 64 bits.
pub date_of_code : (d : Date) → is_day d ≡ true → date_from (date_code d) ≡ d
date_of_code d h =
    let b = day_small d h in
    let y : date_code d / 10000 ≡ d.year = omega (arith, b.1, b.2) in
    let m : date_code d / 100 % 100 ≡ d.month = omega (arith, b.1, b.2) in
    let e : date_code d % 100 ≡ d.day = omega (arith, b.2) in
    rw (y, m, e)

pub date_code_small : (c : ℕ) → is_day (date_from c) ≡ true → c < 100000000
date_code_small c h = omega (arith, (day_small (date_from c) h).0)

-- The order of codes is that of year, month and day.
pub date_order : (a b : Date) → is_day a ≡ true → is_day b ≡ true → numbers (date_code a) (date_code b) ≡ order_dates a b
unfolding order_dates
date_order a b h k = years (ltb a.year b.year) (ltb b.year a.year) refl refl
  where
    s : (a.year ≤ 9999) × (a.month ≤ 12) × (a.day ≤ 31)
    s = day_small a h

    t : (b.year ≤ 9999) × (b.month ≤ 12) × (b.day ≤ 31)
    t = day_small b k

    days : a.year ≡ b.year → a.month ≡ b.month → (p q : Bool) → ltb a.day b.day ≡ p → ltb b.day a.day ≡ q → numbers (date_code a) (date_code b) ≡ numbers a.day b.day
    days y m true q e f = let l = ltb-true _ _ e in numbers_less (date_code a) (date_code b) (omega arith) ∙ sym (numbers_less a.day b.day l)
    days y m false true e f = let l = ltb-true _ _ f in numbers_greater (date_code a) (date_code b) (omega arith) ∙ sym (numbers_greater a.day b.day l)
    days y m false false e f =
        let l = ltb-false _ _ e in
        let n = ltb-false _ _ f in
        numbers_equal (date_code a) (date_code b) (omega arith) (omega arith) ∙ sym (numbers_equal a.day b.day l n)

    months : a.year ≡ b.year → (p q : Bool) → ltb a.month b.month ≡ p → ltb b.month a.month ≡ q → numbers (date_code a) (date_code b) ≡ or_else (numbers a.month b.month) (numbers a.day b.day)
    months y true q e f = let l = ltb-true _ _ e in rw (numbers_less a.month b.month l) (numbers_less (date_code a) (date_code b) (omega (arith, s.2)))
    months y false true e f = let l = ltb-true _ _ f in rw (numbers_greater a.month b.month l) (numbers_greater (date_code a) (date_code b) (omega (arith, t.2)))
    months y false false e f =
        let l = ltb-false _ _ e in
        let n = ltb-false _ _ f in
        rw (numbers_equal a.month b.month l n) (days y (omega arith) (ltb a.day b.day) (ltb b.day a.day) refl refl)

    years : (p q : Bool) → ltb a.year b.year ≡ p → ltb b.year a.year ≡ q → numbers (date_code a) (date_code b) ≡ or_else (numbers a.year b.year) (or_else (numbers a.month b.month) (numbers a.day b.day))
    years true q e f = let l = ltb-true _ _ e in rw (numbers_less a.year b.year l) (numbers_less (date_code a) (date_code b) (omega (arith, s.1, s.2)))
    years false true e f = let l = ltb-true _ _ f in rw (numbers_greater a.year b.year l) (numbers_greater (date_code a) (date_code b) (omega (arith, t.1, t.2)))
    years false false e f =
        let l = ltb-false _ _ e in
        let n = ltb-false _ _ f in
        rw (numbers_equal a.year b.year l n) (months (omega arith) (ltb a.month b.month) (ltb b.month a.month) refl refl)

-- What is read passed the test, and its parts are read.
passed : {A : Type 0} (t : Bool) (o : Option A) (x : A) → cond t o None ≡ Some x → (t ≡ true) × (o ≡ Some x)
passed true o x h = (refl, h)
passed false o x h = absurd (let l : ◌≡◌ {A = ℕ} 0 1 = cc in omega arith)

real_read : (o p q : Option ℕ) (d : Date) → real_day o p q ≡ Some d → (o ≡ Some d.year) × (p ≡ Some d.month) × (q ≡ Some d.day) × (is_day d ≡ true)
real_read None p q d h = absurd (let l : ◌≡◌ {A = ℕ} 0 1 = cc in omega arith)
real_read (Some y) None q d h = absurd (let l : ◌≡◌ {A = ℕ} 0 1 = cc in omega arith)
real_read (Some y) (Some m) None d h = absurd (let l : ◌≡◌ {A = ℕ} 0 1 = cc in omega arith)
real_read (Some y) (Some m) (Some n) d h =
    let t = passed (is_day (date y m n)) (Some (date y m n)) d h in
    let e : date y m n ≡ d = cc in
    (ap (λ (d : Date). Some d.year) e, ap (λ (d : Date). Some d.month) e, ap (λ (d : Date). Some d.day) e, rw (← e) t.0)

pub read_date_day : (s : Bytes) (d : Date) → read_date s ≡ Some d → is_day d ≡ true
unfolding read_date
read_date_day s d h =
    let t = passed (eqb (length s) 10 && eqb (get_or s 4 0) 45 && eqb (get_or s 7 0) 45) (real_day (read_digits (part s 0 4)) (read_digits (part s 5 2)) (read_digits (part s 8 2))) d h in
    (real_read (read_digits (part s 0 4)) (read_digits (part s 5 2)) (read_digits (part s 8 2)) d t.1).3

pub read_date_long : (s : Bytes) (d : Date) → read_date s ≡ Some d → length s ≡ 10
unfolding read_date
read_date_long s d h =
    let t = (and-eq-true_iff _ (eqb (get_or s 7 0) 45)).0 (passed _ _ d h).0 in
    eqb-true (length s) 10 ((and-eq-true_iff (eqb (length s) 10) (eqb (get_or s 4 0) 45)).0 t.0).0

-- Digits that are read are those of the number.
digit_between : (b : ℕ) → is_digit b ≡ true → (48 ≤ b) × (b ≤ 57)
unfolding is_digit
digit_between b h = let t = (and-eq-true_iff (leb 48 b) (leb b 57)).0 h in (leb-true 48 b t.0, leb-true b 57 t.1)

two_read : (a b n : ℕ) → read_digits (a ∷ b ∷ []) ≡ Some n → a ∷ b ∷ [] ≡ two_digits n
unfolding read_digits all decimal
two_read a b n h =
    let t = passed _ _ n h in
    let u = (and-eq-true_iff (is_digit a) (is_digit b && true)).0 t.0 in
    let x = digit_between a u.0 in
    let y = digit_between b ((and-eq-true_iff (is_digit b) true).0 u.1).0 in
    let e : 10 * (10 * 0 + (a - 48)) + (b - 48) ≡ n = let q : decimal 0 (a ∷ b ∷ []) ≡ n = cc in q in
    let f : a ≡ 48 + n / 10 = omega (arith, x.0, x.1, y.0, y.1) in
    let g : b ≡ 48 + n % 10 = omega (arith, x.0, x.1, y.0, y.1) in
    rw (← f, ← g)

four_read : (a b c d n : ℕ) → read_digits (a ∷ b ∷ c ∷ d ∷ []) ≡ Some n → a ∷ b ∷ c ∷ d ∷ [] ≡ two_digits (n / 100) ++ two_digits (n % 100)
unfolding read_digits all decimal
four_read a b c d n h =
    let t = passed _ _ n h in
    let u = (and-eq-true_iff (is_digit a) (is_digit b && (is_digit c && (is_digit d && true)))).0 t.0 in
    let v = (and-eq-true_iff (is_digit b) (is_digit c && (is_digit d && true))).0 u.1 in
    let w = (and-eq-true_iff (is_digit c) (is_digit d && true)).0 v.1 in
    let i = digit_between a u.0 in
    let j = digit_between b v.0 in
    let k = digit_between c w.0 in
    let l = digit_between d ((and-eq-true_iff (is_digit d) true).0 w.1).0 in
    let e : 10 * (10 * (10 * (10 * 0 + (a - 48)) + (b - 48)) + (c - 48)) + (d - 48) ≡ n = let q : decimal 0 (a ∷ b ∷ c ∷ d ∷ []) ≡ n = cc in q in
    let front : n / 100 ≡ 10 * (a - 48) + (b - 48) = omega (arith, k.0, k.1, l.0, l.1) in
    let rest : n % 100 ≡ 10 * (c - 48) + (d - 48) = omega (arith, k.0, k.1, l.0, l.1) in
    let p : a ≡ 48 + n / 100 / 10 = omega (arith, i.0, j.0, j.1) in
    let q : b ≡ 48 + n / 100 % 10 = omega (arith, i.0, j.0, j.1) in
    let r : c ≡ 48 + n % 100 / 10 = omega (arith, k.0, l.0, l.1) in
    let s : d ≡ 48 + n % 100 % 10 = omega (arith, k.0, l.0, l.1) in
    rw (← p, ← q, ← r, ← s)

ten : (s : Bytes) → length s ≡ 10 → s ≡ get_or s 0 0 ∷ get_or s 1 0 ∷ get_or s 2 0 ∷ get_or s 3 0 ∷ get_or s 4 0 ∷ get_or s 5 0 ∷ get_or s 6 0 ∷ get_or s 7 0 ∷ get_or s 8 0 ∷ get_or s 9 0 ∷ []
ten s l =
    let end : drop 10 s ≡ [] = drop_of_length-le s {i = 10} (omega arith) in
    drop-cons s 0 0 (omega arith)
    ∙ rw (
      drop-cons s 1 0 (omega arith),
      drop-cons s 2 0 (omega arith),
      drop-cons s 3 0 (omega arith),
      drop-cons s 4 0 (omega arith),
      drop-cons s 5 0 (omega arith),
      drop-cons s 6 0 (omega arith),
      drop-cons s 7 0 (omega arith),
      drop-cons s 8 0 (omega arith),
      drop-cons s 9 0 (omega arith),
      end,
    )

ten_read : (a b c d u e f v g h : ℕ) (x : Date) → read_date (a ∷ b ∷ c ∷ d ∷ u ∷ e ∷ f ∷ v ∷ g ∷ h ∷ []) ≡ Some x → a ∷ b ∷ c ∷ d ∷ u ∷ e ∷ f ∷ v ∷ g ∷ h ∷ [] ≡ spell_date x
unfolding read_date
ten_read a b c d u e f v g h x r =
    let t = passed _ _ x r in
    let w = (and-eq-true_iff (eqb u 45) (eqb v 45)).0 t.0 in
    let o = real_read _ _ _ x t.1 in
    let dashed : Bytes → Bytes → Bytes → Bytes = λ y m n. y ++ (45 ∷ (m ++ (45 ∷ n))) in
    rw (eqb-true u 45 w.0, eqb-true v 45 w.1)
    (ap (λ (y : Bytes). dashed y (e ∷ f ∷ []) (g ∷ h ∷ [])) (four_read a b c d x.year o.0)
    ∙ (ap (λ (m : Bytes). dashed (two_digits (x.year / 100) ++ two_digits (x.year % 100)) m (g ∷ h ∷ [])) (two_read e f x.month o.1)
    ∙ ap (λ (n : Bytes). dashed (two_digits (x.year / 100) ++ two_digits (x.year % 100)) (two_digits x.month) n) (two_read g h x.day o.2)))

-- A day has one text.
pub date_spelled : (s : Bytes) (d : Date) → read_date s ≡ Some d → s ≡ spell_date d
date_spelled s d h =
    let e = ten s (read_date_long s d h) in
    e ∙ ten_read _ _ _ _ _ _ _ _ _ _ d (subst (λ (s : Bytes). read_date s ≡ Some d) e h)

pub one_text : (s t : Bytes) (d e : Date) → read_date s ≡ Some d → read_date t ≡ Some e → date_code d ≡ date_code e → s ≡ t
one_text s t d e h k q =
    let f : d ≡ e = sym (date_of_code d (read_date_day s d h)) ∙ (ap date_from q ∙ date_of_code e (read_date_day t e k)) in
    date_spelled s d h ∙ (ap spell_date f ∙ sym (date_spelled t e k))

-- The calendar's tests.
pub leap_is : (y : ℕ) → (eqb (y % 4) 0 && (not (eqb (y % 100) 0) || eqb (y % 400) 0)) ≡ is_leap_year y
unfolding is_leap_year
leap_is y = refl

module _ (y m : ℕ) where
  module _ (h : m ≡ 2) (b : Bool) (e : b ≡ is_leap_year y) where
    pub leap_february : b ≡ true → 29 ≡ days_in y m
    unfolding days_in
    leap_february k = rw (eq-eqb m 2 h, ← e, k)

    pub plain_february : b ≡ false → 28 ≡ days_in y m
    unfolding days_in
    plain_february k = rw (eq-eqb m 2 h, ← e, k)

  module _ (h : m ≡ 2 → ⊥) where
    pub short_month : (eqb m 4 || eqb m 6 || eqb m 9 || eqb m 11) ≡ true → 30 ≡ days_in y m
    unfolding days_in
    short_month k = rw (ne_eqb m 2 h, k)

    pub long_month : (eqb m 4 || eqb m 6 || eqb m 9 || eqb m 11) ≡ false → 31 ≡ days_in y m
    unfolding days_in
    long_month k = rw (ne_eqb m 2 h, k)

  pub day_is : (d n : ℕ) → n ≡ days_in y m → (leb 1583 y && leb y 9999 && leb 1 m && leb m 12 && leb 1 d && leb d n) ≡ is_day (date y m d)
  unfolding is_day
  day_is d n e = rw e

pub ruleset calendar = (leap_is, leap_february, plain_february, short_month, long_month, day_is)

-- The ways to read a date.
pub told : (o : Option ℕ) (r : Option ℕ) (n : ℕ) → r ≡ o → r ≡ Some n → o ≡ Some n
told None r n e f = cc
told (Some m) r n e f = let q : n ≡ m = cc in rw q

untold : (o : Option ℕ) (r : Option ℕ) → r ≡ o → r ≡ None → o ≡ None
untold None r e f = refl
untold (Some m) r e f = cc

module _ (o p q : Option ℕ) (u : Option ℕ) (e : u ≡ o) where
  pub no_year : u ≡ None → None ≡ (map_option date_code (real_day o p q))
  no_year h = rw (untold o u e h)

  module _ (y : ℕ) (j : u ≡ Some y) (v : Option ℕ) (f : v ≡ p) where
    pub no_month : v ≡ None → None ≡ (map_option date_code (real_day o p q))
    no_month h = rw (told o u y e j, untold p v f h)

    module _ (m : ℕ) (k : v ≡ Some m) (w : Option ℕ) (g : w ≡ q) where
      pub no_day_read : w ≡ None → None ≡ (map_option date_code (real_day o p q))
      no_day_read h = rw (told o u y e j, told p v m f k, untold q w g h)

      module _ (d : ℕ) (l : w ≡ Some d) (b : Bool) (t : b ≡ is_day (date y m d)) where
        pub a_day : b ≡ true → Some (10000 * y + 100 * m + d) ≡ (map_option date_code (real_day o p q))
        a_day h = rw (told o u y e j, told p v m f k, told q w d g l, ← t, h)

        pub no_day : b ≡ false → None ≡ (map_option date_code (real_day o p q))
        no_day h = rw (told o u y e j, told p v m f k, told q w d g l, ← t, h)

module _ (s : Bytes) (b c : ℕ) (e : b ≡ get_or s 4 0) (f : c ≡ get_or s 7 0) where
  pub date_read : (y m d : Bytes) → y ≡ part s 0 4 → m ≡ part s 5 2 → d ≡ part s 8 2 → (eqb (length s) 10 && eqb b 45 && eqb c 45) ≡ true → (r : Option ℕ) → r ≡ (map_option date_code (real_day (read_digits y) (read_digits m) (read_digits d))) → r ≡ (map_option date_code (read_date s))
  unfolding read_date
  date_read y m d i j k h r g = rw (← e, ← f, h, ← i, ← j, ← k) g

  pub date_unfit : (eqb (length s) 10 && eqb b 45 && eqb c 45) ≡ false → None ≡ (map_option date_code (read_date s))
  unfolding read_date
  date_unfit h = rw (← e, ← f, h)

pub ruleset days = (no_year, no_month, no_day_read, a_day, no_day, date_read, date_unfit)

-- The texts that the request names, computed: which are days, and which are none.
pub the_texts : (read_date (bytes "2000-02-29") ≡ Some (date 2000 2 29)) × (read_date (bytes "1583-01-01") ≡ Some (date 1583 1 1)) × (read_date (bytes "9999-12-31") ≡ Some (date 9999 12 31))
unfolding read_date read_digits decimal all is_digit is_day days_in is_leap_year
the_texts = (refl, refl, refl)

pub no_days : (read_date (bytes "1900-02-29") ≡ None) × (read_date (bytes "2100-02-29") ≡ None) × (read_date (bytes "1582-12-31") ≡ None) × (read_date (bytes "2024-13-01") ≡ None) × (read_date (bytes "2024-04-31") ≡ None) × (read_date (bytes "2024-4-1") ≡ None) × (read_date (bytes "2024-04-010") ≡ None)
unfolding read_date read_digits decimal all is_digit is_day days_in is_leap_year
no_days = (refl, refl, refl, refl, refl, refl, refl)
