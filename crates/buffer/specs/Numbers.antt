-- Numbers in bytes, the low byte first; regions of a buffer with zeros behind what they hold.
use Rattle.std.specs.Prelude.{ℕ, ◌+◌, ◌*◌, ◌-◌, ◌/◌, ◌%◌, List, [], ◌∷◌, ◌++◌, length, get_or, replicate}
use Rattle.text.specs.Bytes.{Bytes}

-- A number below 65,536 as two bytes, and any number below 2^64 as eight.
abbrev pub two_bytes : ℕ → Bytes
two_bytes n = n % 256 ∷ n / 256 % 256 ∷ []

abbrev pub eight_bytes : ℕ → Bytes
eight_bytes n = two_bytes n ++ two_bytes (n / 65536) ++ two_bytes (n / 65536 / 65536) ++ two_bytes (n / 65536 / 65536 / 65536)

-- The number that stands at a place.
unfoldable pub two_at : Bytes → ℕ → ℕ
two_at h i = get_or h i 0 + 256 * get_or h (i + 1) 0

unfoldable pub eight_at : Bytes → ℕ → ℕ
eight_at h i = two_at h i + 65536 * (two_at h (i + 2) + 65536 * (two_at h (i + 4) + 65536 * two_at h (i + 6)))

unfoldable pub zeros : ℕ → Bytes
zeros n = replicate n 0

-- Bytes, and zeros behind them up to a size.
unfoldable pub padded : ℕ → Bytes → Bytes
padded size l = l ++ zeros (size - length l)

-- Where each of some lists begins when they stand one behind the other, and where the last ends.
unfoldable pub starts_from : {A : Type 0} → ℕ → List (List A) → List ℕ
starts_from at [] = at ∷ []
starts_from at (x ∷ l) = at ∷ starts_from (at + length x) l
