-- The code points of names, and their UTF-8. Document 02, "Accented names typed two ways".
use Rattle.std.specs.Prelude.{ℕ, ◌+◌, ◌*◌, ◌/◌, ◌%◌, Bool, true, false, cond, ◌&&◌, ◌||◌, List, [], ◌∷◌, ◌++◌, leb, ltb, Option, Some, None}
use Rattle.text.specs.Bytes.{Bytes}
use Rattle.text.specs.Class.{is_name_byte}

-- A code point of a range.
abbrev pub within : ℕ → ℕ → ℕ → Bool
within a b c = leb a c && leb c b

-- "the thirteen combining marks that occur in decompositions of U+00C0 to U+017F": U+0300 to U+0304, U+0306 to U+0308,
-- U+030A to U+030C, U+0327, U+0328
unfoldable pub is_mark : ℕ → Bool
is_mark c = within 768 772 c || within 774 776 c || within 778 780 c || within 807 808 c

-- "32 to 126", "less the bytes already barred": these are one byte.
unfoldable pub is_plain : ℕ → Bool
is_plain c = within 32 126 c && is_name_byte c

-- "U+00A0 to U+017F", and the marks: these are two bytes.
unfoldable pub is_wide : ℕ → Bool
is_wide c = within 160 383 c || is_mark c

-- "Allowed code points"
abbrev pub is_allowed : ℕ → Bool
is_allowed c = is_plain c || is_wide c

-- The code point that two bytes 110xxxxx 10xxxxxx write, and whether two bytes are such and write one of those that are two bytes:
-- an overlong pair writes none of them.
unfoldable pub pair_code : ℕ → ℕ → ℕ
pair_code a b = 64 * (a % 32) + b % 64

unfoldable pub is_pair : ℕ → ℕ → Bool
is_pair a b = within 192 223 a && within 128 191 b && is_wide (pair_code a b)

abbrev pub before : ℕ → Option (List ℕ) → Option (List ℕ)
before c None = None
before c (Some l) = Some (c ∷ l)

-- The code points of a text; none where it has anything else. "Anything else breaks the name rule."
unfoldable pub read : Bytes → Option (List ℕ)
read [] = Some []
read (a ∷ []) = cond (is_plain a) (Some (a ∷ [])) None
read (a ∷ b ∷ s) = elim (is_plain a) [ true ↦ before a (read (b ∷ s)) | false ↦ elim (is_pair a b) [ true ↦ before (pair_code a b) (read s) | false ↦ None ] ]

-- The bytes of a code point below 2,048, and of a text.
unfoldable pub encode : ℕ → Bytes
encode c = cond (ltb c 128) (c ∷ []) ((192 + c / 64 % 32) ∷ (128 + c % 64) ∷ [])

unfoldable pub write : List ℕ → Bytes
write [] = []
write (c ∷ l) = encode c ++ write l
