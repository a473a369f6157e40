-- Byte strings: their order, parts of them, trimming, a word at the front. Document 01, "Names, values and kinds".
use Rattle.std.specs.Prelude.{ℕ, suc, Bool, true, false, cond, ◌&&◌, ◌||◌, List, [], ◌∷◌, ltb, eqb, length, take, drop, Option, Some, None}
use Prim.Native.Char.{code}
use Prim.Native.String.{String, [] as nil, ◌∷◌ as ◌then◌}
use Rattle.std.specs.declared.cmp.Ordering.{Ordering}
use Rattle.std.specs.declared.cmp.Ordering.TheVariants.{Less, Equal, Greater}

-- A string of bytes, each a number below 256.
abbrev pub Bytes : Type 0
Bytes = List ℕ

-- The bytes of an ASCII text.
abbrev pub bytes : String → Bytes
bytes nil = []
bytes (c then s) = code c ∷ bytes s

-- The order of two numbers.
unfoldable pub numbers : ℕ → ℕ → Ordering
numbers a b = cond (ltb a b) Less (cond (ltb b a) Greater Equal)

-- "compared byte by byte, bytes unsigned, a proper prefix being less"
unfoldable pub order_of : Bytes → Bytes → Ordering
order_of [] [] = Equal
order_of [] (y ∷ t) = Less
order_of (x ∷ s) [] = Greater
order_of (x ∷ s) (y ∷ t) = cond (ltb x y) Less (cond (ltb y x) Greater (order_of s t))

-- Two strings have the same bytes.
unfoldable pub same : Bytes → Bytes → Bool
same [] [] = true
same [] (y ∷ t) = false
same (x ∷ s) [] = false
same (x ∷ s) (y ∷ t) = eqb x y && same s t

-- Some element passes the test; every element does.
module _ {A : Type 0} where
  unfoldable pub any : (A → Bool) → List A → Bool
  any p [] = false
  any p (x ∷ l) = p x || any p l

  unfoldable pub all : (A → Bool) → List A → Bool
  all p [] = true
  all p (x ∷ l) = p x && all p l

-- "A blank is byte 32 or byte 10"
abbrev pub is_blank : ℕ → Bool
is_blank b = eqb b 32 || eqb b 10

-- How many bytes at the front pass the test.
unfoldable pub span : (ℕ → Bool) → Bytes → ℕ
span p [] = 0
span p (b ∷ s) = elim (p b) [ true ↦ suc (span p s) | false ↦ 0 ]

-- The bytes at the front that pass the test, and what is behind them.
abbrev pub front : (ℕ → Bool) → Bytes → Bytes
front p s = take (span p s) s

abbrev pub behind : (ℕ → Bool) → Bytes → Bytes
behind p s = drop (span p s) s

-- A byte before a string with no blank at its end: dropped where it is a blank and nothing follows.
abbrev pub unless_last : ℕ → Bytes → Bytes
unless_last b [] = cond (is_blank b) [] (b ∷ [])
unless_last b (c ∷ s) = b ∷ c ∷ s

unfoldable pub trim_end : Bytes → Bytes
trim_end [] = []
trim_end (b ∷ s) = unless_last b (trim_end s)

-- "Trimming drops blanks at both ends."
unfoldable pub trim : Bytes → Bytes
trim s = trim_end (behind is_blank s)

-- The word w stands at the front.
unfoldable pub starts : Bytes → Bytes → Bool
starts [] s = true
starts (c ∷ w) [] = false
starts (c ∷ w) (b ∷ s) = elim (eqb b c) [ true ↦ starts w s | false ↦ false ]

-- What is behind the word w, where it stands at the front.
unfoldable pub after : Bytes → Bytes → Option Bytes
after w s = cond (starts w s) (Some (drop (length w) s)) None

-- The len bytes from start, as far as there are any.
abbrev pub part : Bytes → ℕ → ℕ → Bytes
part s start len = take len (drop start s)
