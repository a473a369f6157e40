-- What reading a number answers, by what was called.
use Prim.Native.Nat.{ℕ, ◌+◌, ◌*◌, ◌≤◌}
use mathlib.Core.Path.{◌≡◌}
use native.Mathlib.Omega.{arith}
use lib.ListN.{length, get_or, get_or-eq_default}
use Rattle.text.specs.Bytes.{Bytes}
use Rattle.buffer.specs.Numbers.{two_at, eight_at}

two_past : (h : Bytes) (i : ℕ) → length h ≤ i → 0 ≡ two_at h i
unfolding two_at
two_past h i l = omega (arith, get_or-eq_default h 0 l, get_or-eq_default h 0 {n = i + 1} (omega arith))

-- Where at most one byte is left, the number is that byte.
pub two_last : (h : Bytes) (i a l : ℕ) → length h ≤ i + 1 → a ≡ get_or h i 0 → l ≡ a → l ≡ two_at h i
unfolding two_at
two_last h i a l k e f = omega (arith, get_or-eq_default h 0 {n = i + 1} k)

pub two_is : (h : Bytes) (i a b l u : ℕ) → a ≡ get_or h i 0 → l ≡ a → b ≡ get_or h (i + 1) 0 → u ≡ b → l + 256 * u ≡ two_at h i
unfolding two_at
two_is h i a b l u e f g j = rw (f, e, j, g)

pub eight_past : (h : Bytes) (i : ℕ) → length h ≤ i → 0 ≡ eight_at h i
unfolding eight_at
eight_past h i l = omega (arith, two_past h i l, two_past h (i + 2) (omega arith), two_past h (i + 4) (omega arith), two_past h (i + 6) (omega arith))

pub eight_is : (h : Bytes) (i a b c d p q r s : ℕ) → a ≡ two_at h i → p ≡ a → b ≡ two_at h (i + 2) → q ≡ b → c ≡ two_at h (i + 4) → r ≡ c → d ≡ two_at h (i + 6) → s ≡ d → p + 65536 * (q + 65536 * (r + 65536 * s)) ≡ eight_at h i
unfolding eight_at
eight_is h i a b c d p q r s e f g j k l m n = rw (f, e, j, g, l, k, n, m)

pub ruleset reading = (eight_past, eight_is)
