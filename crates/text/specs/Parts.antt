-- Parts of a text by their places. All but `part_of` are working definitions.
use Rattle.std.specs.Prelude.{ℕ, ◌+◌, ◌≤◌, ◌≡◌, length}
use Rattle.text.specs.Bytes.{Bytes, part, trim}
use Rattle.text.specs.declared.Span.{Span}

-- The part of a text that lies at a place.
abbrev pub part_of : Bytes → Span → Bytes
part_of s p = part s p.start p.len

-- A part lies within a text.
abbrev pub Within : Bytes → Span → Type 0
Within s p = p.start + p.len ≤ length s

-- What trimming the part of s at start, of len bytes, answers.
pub record Trimmed (s : Bytes) (start len : ℕ) (p : Span) : Type 0 where
  pub is : part_of s p ≡ trim (part s start len)
  pub within : Within s p
