-- Tables: lists given by a function of the place, and how often a test holds below a number. `Tabled` and `count_to` are working
-- definitions.
use Rattle.std.specs.Prelude.{Bool, true, false, List, [], ◌∷◌, ◌++◌, ◌≡◌, ℕ, zero, suc, ◌+◌, ◌<◌, length, get_or}

-- f 0, f 1, .. f (n - 1)
unfoldable pub tabulate : {A : Type 0} → ℕ → (ℕ → A) → List A
tabulate zero f = []
tabulate (suc n) f = tabulate n f ++ (f n ∷ [])

-- The table holds f j in each place j below n, as far as it goes.
pub record Tabled (f : ℕ → ℕ) (n : ℕ) (l : List ℕ) : Type 0 where
  pub at : (j : ℕ) → j < n → j < length l → get_or l j 0 ≡ f j

-- 1 for true, 0 for false
abbrev pub bit : Bool → ℕ
bit true = 1
bit false = 0

-- for how many of the numbers below n f is true
unfoldable pub count_to : ℕ → (ℕ → Bool) → ℕ
count_to zero f = 0
count_to (suc n) f = count_to n f + bit (f n)
