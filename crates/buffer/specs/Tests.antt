-- Tests of all numbers below one, and of zeros in a buffer.
use Rattle.std.specs.Prelude.{ℕ, zero, suc, ◌+◌, Bool, true, ◌&&◌, eqb, get_or}
use Rattle.text.specs.Bytes.{Bytes}

-- The test holds for each number below n.
unfoldable pub all_to : ℕ → (ℕ → Bool) → Bool
all_to zero f = true
all_to (suc n) f = all_to n f && f n

-- Of the layout. The n bytes from a place on are 0.
unfoldable pub zeros_at : Bytes → ℕ → ℕ → Bool
zeros_at h from n = all_to n (λ i. eqb (get_or h (from + i) 0) 0)

-- The first n bytes are 0.
unfoldable pub zeros_to : Bytes → ℕ → Bool
zeros_to s n = all_to n (λ i. eqb (get_or s i 0) 0)
