-- Working definitions: what loops leave behind.
use Rattle.std.specs.Prelude.{ℕ, zero, suc, ◌+◌, Bool, true, not, List, eqb, get_or, set}
use Rattle.text.specs.Bytes.{Bytes, order_of}
use Rattle.sorting.specs.Ascending.{is_less}

-- A table after n writes: the number v i in the place at i, for each i below n.
unfoldable pub written : (ℕ → ℕ) → (ℕ → ℕ) → ℕ → List ℕ → List ℕ
written at v zero t = t
written at v (suc n) t = set (written at v n t) (at n) (v n)

-- The sum of f i for each i below n.
unfoldable pub sum_to : ℕ → (ℕ → ℕ) → ℕ
sum_to zero f = 0
sum_to (suc n) f = sum_to n f + f n

-- The one before f i, if there is one, is less.
unfoldable pub climbs : (ℕ → Bytes) → ℕ → Bool
climbs f zero = true
climbs f (suc i) = is_less (order_of (f i) (f (suc i)))

-- The table has a number other than 0 in a place.
unfoldable pub is_set : List ℕ → ℕ → Bool
is_set t i = not (eqb (get_or t i 0) 0)
