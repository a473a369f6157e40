-- Working definitions: a register as rows of a table. A row is one entry of the text; two lists of row numbers say which rows
-- are properties and which are pages.
use Rattle.std.specs.Prelude.{ℕ, zero, suc, Bool, true, false, cond, ◌||◌, List, [], ◌∷◌, ◌++◌, length, get_or, Option, Some, None}
use Rattle.text.specs.Bytes.{Bytes, same}
use Rattle.values.specs.declared.Kind.{Kind}
use Rattle.language.specs.Answer.{found}
use Rattle.language.specs.RegisterText.{Entry, prop, page, cat, val, close}

-- The test holds of some number below n.
unfoldable pub any_to : ℕ → (ℕ → Bool) → Bool
any_to zero g = false
any_to (suc n) g = any_to n g || g n

-- The numbers below n of which the test holds.
unfoldable pub places_to : ℕ → (ℕ → Bool) → List ℕ
places_to zero g = []
places_to (suc n) g = places_to n g ++ cond (g n) (n ∷ []) []

-- Two of the numbers below n are alike.
unfoldable pub twice_to : ℕ → (ℕ → ℕ → Bool) → Bool
twice_to zero r = false
twice_to (suc n) r = twice_to n r || any_to n (λ i. r i n)

-- Two places of a list of row numbers hold rows that are alike.
abbrev pub twice_at : (ℕ → ℕ → Bool) → List ℕ → Bool
twice_at r l = twice_to (length l) (λ a b. r (get_or l a 0) (get_or l b 0))

abbrev pub is_prop : Entry → Bool
is_prop (prop x k) = true
is_prop (page n x) = false
is_prop (cat x) = false
is_prop (val x v) = false
is_prop close = false

-- The kind that an entry declares x with, if it does.
abbrev pub declared_kind : Bytes → Entry → Option Kind
declared_kind x (prop y k) = cond (same y x) (Some k) None
declared_kind x (page n y) = None
declared_kind x (cat y) = None
declared_kind x (val y v) = None
declared_kind x close = None

-- The first kind that is found in a list of rows.
unfoldable pub first_in : (ℕ → Option Kind) → List ℕ → Option Kind
first_in g [] = None
first_in g (i ∷ l) = found (g i) Some (first_in g l)
