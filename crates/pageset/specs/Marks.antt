-- The marks of a set of pages.
use Rattle.std.specs.Prelude.{ℕ, ◌/◌, ◌%◌, ◌^◌, Bool, List, eqb, get_or}
use Rattle.text.specs.Table.{tabulate}

-- Bit i of a number is 1.
unfoldable pub is_set : ℕ → ℕ → Bool
is_set n i = eqb (n / 2 ^ i % 2) 1

-- The mark at a page's place: a bit of one of four words.
unfoldable pub mark_in : List ℕ → ℕ → Bool
mark_in words page = is_set (get_or words (page / 64) 0) (page % 64)

-- "arrays of 256 marks"
abbrev pub marks_from : List ℕ → List Bool
marks_from words = tabulate 256 (mark_in words)
