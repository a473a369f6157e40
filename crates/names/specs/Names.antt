-- Names in two spellings. Document 02, "Accented names typed two ways"; Unicode Standard Annex 15.
use Rattle.std.specs.Prelude.{ℕ, ◌-◌, ◌≡◌, Bool, true, false, cond, not, ◌&&◌, ◌||◌, List, [], ◌∷◌, ◌++◌, eqb, leb, length, get_or, Option, Some, None}
use Rattle.text.specs.Bytes.{Bytes, same, all, is_blank}
use Rattle.text.specs.Class.{one_of, is_other}
use Rattle.names.specs.Table.{Entry, composition, decomposition}
use Rattle.names.specs.Codes.{is_mark, read, write}

-- A mark directly behind a letter with which the table composes it becomes the composed letter with it.
unfoldable pub compose : List ℕ → List ℕ
compose [] = []
compose (c ∷ []) = c ∷ []
compose (c ∷ d ∷ l) = elim (composition c d) [ Some e ↦ e.composed ∷ compose l | None ↦ c ∷ compose (d ∷ l) ]

-- Each composed letter becomes its letter and its mark.
abbrev pub parts : ℕ → Option Entry → List ℕ
parts c None = c ∷ []
parts c (Some e) = e.letter ∷ e.mark ∷ []

unfoldable pub decompose : List ℕ → List ℕ
decompose [] = []
decompose (c ∷ l) = parts c (decomposition c) ++ decompose l

-- "A mark must directly follow a letter with which the standard's table composes it": composing leaves no mark.
abbrev pub is_markless : List ℕ → Bool
is_markless l = all (λ c. not (is_mark c)) l

-- The composed form of a text, none where its code points or its marks break the name rule.
abbrev pub composed_codes : Option (List ℕ) → Option Bytes
composed_codes None = None
composed_codes (Some l) = cond (is_markless (compose l)) (Some (write (compose l))) None

unfoldable pub composed : Bytes → Option Bytes
composed s = composed_codes (read s)

-- The composed form of a name; bytes that have none stay as they are.
abbrev pub form_or : Bytes → Option Bytes → Bytes
form_or s None = s
form_or s (Some t) = t

unfoldable pub composed_name : Bytes → Bytes
composed_name s = form_or s (composed s)

abbrev pub is_some : {A : Type 0} → Option A → Bool
is_some None = false
is_some (Some a) = true

-- "1 to 64 bytes"
abbrev pub is_sized : Bytes → Bool
is_sized s = leb 1 (length s) && leb (length s) 64

abbrev pub first : Bytes → ℕ
first s = get_or s 0 0

abbrev pub last : Bytes → ℕ
last s = get_or s (length s - 1) 0

-- "Length is counted as typed." The ends are as document 01 has them: "It does not begin with `!`, `~`, `+` or a blank and does not
-- end with a blank."
unfoldable pub has_name_shape : Bytes → Bool
has_name_shape s = is_sized s && not (one_of "!~+" (first s)) && not (is_blank (first s)) && not (is_blank (last s))

unfoldable pub is_name : Bytes → Bool
is_name s = has_name_shape s && is_some (composed s)

-- "A property name also has no `.`."
unfoldable pub is_property_name : Bytes → Bool
is_property_name s = is_name s && all (is_other 46) s

-- "a name, or empty for the main namespace"
unfoldable pub is_namespace : Bytes → Bool
is_namespace s = eqb (length s) 0 || is_name s

-- A name that is its own composed form. "Held forms keep names composed"
abbrev pub is_form : Bytes → Option Bytes → Bool
is_form s None = false
is_form s (Some t) = same s t

unfoldable pub is_composed_name : Bytes → Bool
is_composed_name s = is_name s && is_form s (composed s)

unfoldable pub is_composed_property_name : Bytes → Bool
is_composed_property_name s = is_composed_name s && all (is_other 46) s

unfoldable pub is_composed_namespace : Bytes → Bool
is_composed_namespace s = eqb (length s) 0 || is_composed_name s

-- Canonical equivalence: two texts decompose to the same code points. A letter of a name has one mark at most, so that no marks
-- are to be put in order.
abbrev pub decomposed : Option (List ℕ) → Option (List ℕ)
decomposed None = None
decomposed (Some l) = Some (decompose l)

abbrev pub Equivalent : Bytes → Bytes → Type 0
Equivalent s t = decomposed (read s) ≡ decomposed (read t)
