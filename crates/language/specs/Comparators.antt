-- The comparators as written: what differs from one to the other, in columns. Document 01, "The query text" and "Text to core".
use Rattle.std.specs.Prelude.{ℕ, Bool, true, false, cond, List, [], ◌∷◌, eqb, length}
use Rattle.text.specs.Bytes.{Bytes, bytes, starts}
use Rattle.language.specs.declared.Comparator.{Comparator}
use Rattle.language.specs.declared.SurfaceComparator.{SurfaceComparator}

-- A comparator as it is typed. `>` means greater or equal.
abbrev pub word : SurfaceComparator → Bytes
word SurfaceComparator.Equal = []
word SurfaceComparator.Unequal = bytes "!"
word SurfaceComparator.Greater = bytes ">>"
word SurfaceComparator.Less = bytes "<<"
word SurfaceComparator.AtLeast = bytes ">"
word SurfaceComparator.AtMost = bytes "<"

-- Those that have a word, the longer before one that it begins with.
abbrev pub typed : List SurfaceComparator
typed =
    SurfaceComparator.Unequal ∷ SurfaceComparator.Greater ∷ SurfaceComparator.AtLeast
    ∷ SurfaceComparator.Less ∷ SurfaceComparator.AtMost ∷ []

-- The first of a list whose word stands at the front; with none of them, equal.
unfoldable pub first_typed : List SurfaceComparator → Bytes → SurfaceComparator
first_typed [] s = SurfaceComparator.Equal
first_typed (c ∷ l) s = cond (starts (word c) s) c (first_typed l s)

-- No comparator is written.
abbrev pub is_equal : SurfaceComparator → Bool
is_equal c = eqb (length (word c)) 0

-- The byte of a comparator in held trees, and in the links of held queries.
abbrev pub comparator_code : SurfaceComparator → ℕ
comparator_code SurfaceComparator.Equal = 0
comparator_code SurfaceComparator.Unequal = 1
comparator_code SurfaceComparator.Greater = 2
comparator_code SurfaceComparator.Less = 3
comparator_code SurfaceComparator.AtLeast = 4
comparator_code SurfaceComparator.AtMost = 5

abbrev pub last_comparator : ℕ
last_comparator = 5

-- The comparator of a byte; one above the last is read as the last.
unfoldable pub comparator_from : ℕ → SurfaceComparator
comparator_from c =
    cond (eqb c 0) SurfaceComparator.Equal
    (cond (eqb c 1) SurfaceComparator.Unequal
    (cond (eqb c 2) SurfaceComparator.Greater
    (cond (eqb c 3) SurfaceComparator.Less
    (cond (eqb c 4) SurfaceComparator.AtLeast SurfaceComparator.AtMost))))

-- Each by the core's four: the one that it is, equality aside, and whether equality is added.
abbrev pub strictly : SurfaceComparator → Comparator
strictly SurfaceComparator.Equal = Comparator.Equal
strictly SurfaceComparator.Unequal = Comparator.Unequal
strictly SurfaceComparator.Greater = Comparator.Greater
strictly SurfaceComparator.Less = Comparator.Less
strictly SurfaceComparator.AtLeast = Comparator.Greater
strictly SurfaceComparator.AtMost = Comparator.Less

abbrev pub or_equal : SurfaceComparator → Bool
or_equal SurfaceComparator.Equal = false
or_equal SurfaceComparator.Unequal = false
or_equal SurfaceComparator.Greater = false
or_equal SurfaceComparator.Less = false
or_equal SurfaceComparator.AtLeast = true
or_equal SurfaceComparator.AtMost = true

-- A name is looked for in every namespace, whichever is written.
abbrev pub in_any_namespace : SurfaceComparator → Bool
in_any_namespace SurfaceComparator.Equal = false
in_any_namespace SurfaceComparator.Unequal = true
in_any_namespace SurfaceComparator.Greater = false
in_any_namespace SurfaceComparator.Less = false
in_any_namespace SurfaceComparator.AtLeast = false
in_any_namespace SurfaceComparator.AtMost = false
