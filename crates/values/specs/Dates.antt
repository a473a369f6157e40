-- Dates: the days of the Gregorian calendar, how they are read, their codes and their order, and their text. Document 02, "Best-before dates".
use Rattle.std.specs.Prelude.{ℕ, ◌+◌, ◌*◌, ◌/◌, ◌%◌, Bool, cond, not, ◌&&◌, ◌||◌, [], ◌∷◌, ◌++◌, leb, eqb, length, get_or, Option, Some, None}
use Rattle.text.specs.Bytes.{Bytes, numbers, part}
use Rattle.std.specs.declared.cmp.Ordering.{Ordering}
use Rattle.std.specs.declared.cmp.Ordering.TheVariants.{Less, Equal, Greater}
use Rattle.values.specs.Values.{read_digits}

-- A year, a month and a day of the month.
pub record Date : Type 0 where
  pub year : ℕ
  pub month : ℕ
  pub day : ℕ

abbrev pub date : ℕ → ℕ → ℕ → Date
date y m d = record { year = y; month = m; day = d }

-- Every fourth year is a leap year; of those that end a century every fourth.
unfoldable pub is_leap_year : ℕ → Bool
is_leap_year y = eqb (y % 4) 0 && (not (eqb (y % 100) 0) || eqb (y % 400) 0)

-- How many days a month has.
unfoldable pub days_in : ℕ → ℕ → ℕ
days_in y m = cond (eqb m 2) (cond (is_leap_year y) 29 28) (cond (eqb m 4 || eqb m 6 || eqb m 9 || eqb m 11) 30 31)

-- "a real Gregorian day from 1583-01-01 to 9999-12-31"
unfoldable pub is_day : Date → Bool
is_day d = leb 1583 d.year && leb d.year 9999 && leb 1 d.month && leb d.month 12 && leb 1 d.day && leb d.day (days_in d.year d.month)

-- "ordered by day": by the year, in a year by the month, in a month by the day (`date_order` in proofs/Days).
abbrev pub or_else : Ordering → Ordering → Ordering
or_else Less o = Less
or_else Equal o = o
or_else Greater o = Greater

unfoldable pub order_dates : Date → Date → Ordering
order_dates a b = or_else (numbers a.year b.year) (or_else (numbers a.month b.month) (numbers a.day b.day))

-- The code of a date, its eight digits: 20240229. And the date that a code tells.
abbrev pub date_code : Date → ℕ
date_code d = 10000 * d.year + 100 * d.month + d.day

abbrev pub date_from : ℕ → Date
date_from c = date (c / 10000) (c / 100 % 100) (c % 100)

-- The day of a year, a month and a day of the month, where they are read and it is one.
abbrev pub real_day : Option ℕ → Option ℕ → Option ℕ → Option Date
real_day None m d = None
real_day (Some y) None d = None
real_day (Some y) (Some m) None = None
real_day (Some y) (Some m) (Some d) = cond (is_day (date y m d)) (Some (date y m d)) None

-- "four digits, `-`, two digits, `-`, two digits, a real Gregorian day"
unfoldable pub read_date : Bytes → Option Date
read_date s =
    cond (eqb (length s) 10 && eqb (get_or s 4 0) 45 && eqb (get_or s 7 0) 45)
    (real_day (read_digits (part s 0 4)) (read_digits (part s 5 2)) (read_digits (part s 8 2)))
    None

-- A day has one text.
abbrev pub two_digits : ℕ → Bytes
two_digits n = (48 + n / 10) ∷ (48 + n % 10) ∷ []

abbrev pub spell_date : Date → Bytes
spell_date d = two_digits (d.year / 100) ++ (two_digits (d.year % 100) ++ (45 ∷ (two_digits d.month ++ (45 ∷ two_digits d.day))))
