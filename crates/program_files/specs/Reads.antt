-- What reading a file answers.
use Rattle.std.specs.Prelude.{ℕ, ◌+◌, ◌≤◌, Result, Ok, Err}

-- The bytes that were read lie in a buffer, behind its first ones.
abbrev pub Within : {E : Type 0} → ℕ → ℕ → Result ℕ E → Type 0
Within done size (Ok n) = done + n ≤ size
Within done size (Err reason) = Unit {0}
