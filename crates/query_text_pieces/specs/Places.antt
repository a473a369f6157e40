-- Working definitions: what the answers of this crate tell of a text, by the published definitions.
use Rattle.std.specs.Prelude.{ℕ, ◌+◌, ◌≤◌, ◌≡◌, length, drop, Option, Some, None}
use Rattle.text.specs.Bytes.{Bytes, bytes, is_blank, behind, part}
use Rattle.text.specs.Parts.{part_of}
use Rattle.text.specs.declared.Span.{Span}
use Rattle.values.specs.declared.Split.{Split}
use Rattle.values.specs.Names.{reference}
use Rattle.values.specs.Values.{map_option}
use Rattle.values.specs.Answers.{split_of}
use Rattle.language.specs.Answer.{◌>>=◌}
use Rattle.language.specs.Surface.{Chain, single, chain, Identifiers}
use Rattle.language.specs.RawQuery.{Piece, token, head_length, split_dots, trim_names}
use Rattle.query_text_pieces.specs.declared.Placed.{Placed}
use Rattle.query_text_pieces.specs.declared.Read.{Read}

-- The text from a place on.
unfoldable pub from : Bytes → ℕ → Bytes
from s at = drop at s

-- The part of a text that lies at a place.
unfoldable pub text_at : Bytes → Span → Bytes
text_at s p = part_of s p

-- What is behind the place that was found.
unfoldable pub rest_of : Bytes → Option ℕ → Option Bytes
rest_of s (Some i) = Some (from s i)
rest_of s None = None

-- What is behind the `</q>` that closes a subquery, and behind blanks.
unfoldable pub inner_end : Bytes → Option Bytes
inner_end s = token (bytes "</q>") s >>= λ r. Some (behind is_blank r)

-- Where the `::` of a property body stands that begins at a place.
unfoldable pub head_at : Bytes → ℕ → Option ℕ
head_at s at = map_option (λ k. at + k) (head_length (from s at))

-- The names of a head that lies at a place, and the last of them.
unfoldable pub head_of : Bytes → ℕ → ℕ → Chain
head_of s at len = trim_names (split_dots (part s at len))

unfoldable pub last_of : Chain → Bytes
last_of (single x) = x
last_of (chain x p) = last_of p

-- A piece by its place.
abbrev pub piece_of : Bytes → Placed → Piece
piece_of s p = record { comparator = p.comparator; text = part_of s p.text }

-- The place so far behind a start.
abbrev pub moved : ℕ → Span → Span
moved start p = record { start = start + p.start; len = p.len }

-- A place, if there is one, ends at m at the latest.
abbrev pub IfEndsBy : ℕ → Option Span → Type 0
IfEndsBy m None = Unit {0}
IfEndsBy m (Some n) = n.start + n.len ≤ m

-- Where the two sides of the reference at p lie in a text: neither ends behind the part that p has.
pub record SplitsAt (s : Bytes) (p : Span) (r : Split) : Type 0 where
  pub is : split_of s r ≡ reference (part_of s p)
  pub namespace : IfEndsBy (p.start + length (part_of s p)) r.namespace
  pub article : r.article.start + r.article.len ≤ p.start + length (part_of s p)

-- What each answer tells.
unfoldable pub category_told : Bytes → Option Span → Option Bytes
category_told s (Some p) = Some (part_of s p)
category_told s None = None

unfoldable pub read_told : Bytes → Option Read → Option Identifiers
read_told s (Some (Read.Namespace p)) = Some (Identifiers.namespace (part_of s p))
read_told s (Some (Read.Reference c p)) = Some (Identifiers.reference c (reference (part_of s p)))
read_told s None = None
