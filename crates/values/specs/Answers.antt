-- Working definitions, but for `kind_at`: what the functions answer, by the definitions of `Names` and `Values` over the
-- declared types.
use Rattle.std.specs.Prelude.{ℕ, ◌≡◌, Bool, cond, not, ◌&&◌, List, [], ◌∷◌, Option, Some, None}
use Rattle.text.specs.Bytes.{Bytes, is_blank, starts}
use Rattle.text.specs.Parts.{part_of, Within}
use Rattle.names.specs.Names.{first, last}
use Rattle.values.specs.Names.{Reference, bare, qualified, reference}
use Rattle.values.specs.Values.{kind_word, kinds}
use Rattle.values.specs.declared.Kind.{Kind}
use Rattle.values.specs.declared.Split.{Split}
use Rattle.text.specs.declared.Span.{Span}

-- "no blank at either end"
abbrev pub has_bare_ends : Bytes → Bool
has_bare_ends s = not (is_blank (first s)) && not (is_blank (last s))

-- The reference of an article at a place of a text, and of a namespace, if there is one.
abbrev pub reference_at : Bytes → Option Span → Span → Reference
reference_at s None a = bare (part_of s a)
reference_at s (Some n) a = qualified (part_of s n) (part_of s a)

-- The reference that a split of a text tells.
abbrev pub split_of : Bytes → Split → Reference
split_of s r = reference_at s r.namespace r.article

-- A place, if there is one, lies within a text.
abbrev pub IfWithin : Bytes → Option Span → Type 0
IfWithin s None = Unit {0}
IfWithin s (Some n) = Within s n

-- What splitting a text answers.
pub record Splits (s : Bytes) (r : Split) : Type 0 where
  pub is : split_of s r ≡ reference s
  pub namespace : IfWithin s r.namespace
  pub article : Within s r.article

-- The kind whose word stands at the front. No word is the front of another.
unfoldable pub first_kind : List Kind → Bytes → Option Kind
first_kind [] s = None
first_kind (k ∷ l) s = cond (starts (kind_word k) s) (Some k) (first_kind l s)

abbrev pub kind_at : Bytes → Option Kind
kind_at s = first_kind kinds s
