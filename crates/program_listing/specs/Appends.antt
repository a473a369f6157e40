-- What is appended to a buffer, part after part, as far as there is room.
use Rattle.std.specs.Prelude.{ℕ, ◌+◌, ◌-◌, ◌≤◌, ◌≡◌, length}
use Rattle.text.specs.Bytes.{Bytes}
use Rattle.buffer.specs.Writing.{written}

-- The smaller of two numbers.
abbrev pub least : ℕ → ℕ → ℕ
least a b = b - (b - a)

-- x was written from `at` on, and r is the place behind it.
pub record Appends (before : Bytes) (at : ℕ) (x after : Bytes) (r : ℕ) : Type 0 where
  pub bytes : at ≤ length before → after ≡ written before at x
  pub place : at ≤ length before → r ≡ least (at + length x) (length before)
