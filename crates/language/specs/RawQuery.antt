-- The grammar of the query text: bytes to a raw query, whose names and values are not judged yet. Document 01, "The query text".
use Rattle.std.specs.Prelude.{ℕ, zero, suc, ◌+◌, ◌*◌, Bool, true, false, cond, ◌||◌, List, [], ◌∷◌, eqb, length, take, drop, Option, Some, None}
use Rattle.text.specs.Bytes.{Bytes, bytes, all, is_blank, front, behind, trim, starts, after}
use Rattle.text.specs.Class.{is_free}
use Rattle.values.specs.Values.{map_option}
use Rattle.language.specs.Answer.{◌>>=◌, found, only_if}
use Rattle.language.specs.Comparators.{word, typed, first_typed}
use Rattle.language.specs.Surface.{Chain, single, chain}
use Rattle.language.specs.declared.SurfaceComparator.{SurfaceComparator}

-- "A piece is an optional comparator, the longest of `!`, `>`, `>>`, `<`, `<<`, then bytes free of `[ ] | < >`; both parts are trimmed"
pub record Piece : Type 0 where
  pub comparator : SurfaceComparator
  pub text : Bytes

-- A text as it was read: names and values not judged, groups kept.
mutual
  pub data RawAlternatives : Type 0 where
    piece : Piece → RawAlternatives
    subquery : RawQuery → RawAlternatives
    either : RawAlternatives → RawAlternatives → RawAlternatives

  pub data RawQuery : Type 0 where
    pieces : Piece → List Piece → RawQuery
    property : Chain → RawAlternatives → RawQuery
    group : RawQuery → RawQuery
    disjunction : RawQuery → RawQuery → RawQuery
    conjunction : RawQuery → RawQuery → RawQuery

-- What is behind the word w, where it stands behind blanks.
unfoldable pub token : Bytes → Bytes → Option Bytes
token w s = after w (behind is_blank s)

-- "an optional comparator, the longest of `!`, `>`, `>>`, `<`, `<<`", and what is behind it.
unfoldable pub comparator : Bytes → SurfaceComparator × Bytes
comparator s = let c = first_typed typed s in (c, drop (length (word c)) s)

-- The piece at the front, "blanks before a comparator do not hide it", and what is behind it.
unfoldable pub piece_at : Bytes → Piece × Bytes
piece_at s =
    let (c, r) = comparator (behind is_blank s) in
    (record { comparator = c; text = trim (front is_free r) }, behind is_free r)

-- `|`, `<q>` or `]]` stands at the front.
abbrev pub ends_head : Bytes → Bool
ends_head s = starts (bytes "|") s || starts (bytes "<q>") s || starts (bytes "]]") s

-- "If `::` comes before any `|`, `<q>` or `]]`": how many bytes stand before it.
unfoldable pub head_length : Bytes → Option ℕ
head_length [] = None
head_length (b ∷ s) =
    elim (starts (bytes "::") (b ∷ s)) [
      | true ↦ Some 0
      | false ↦ elim (ends_head (b ∷ s)) [ true ↦ None | false ↦ map_option suc (head_length s) ]
    ]

-- "The head is property names parted by `.`", each trimmed.
abbrev pub prefixed : ℕ → Chain → Chain
prefixed b (single x) = single (b ∷ x)
prefixed b (chain x p) = chain (b ∷ x) p

unfoldable pub split_dots : Bytes → Chain
split_dots [] = single []
split_dots (b ∷ s) = cond (eqb b 46) (chain [] (split_dots s)) (prefixed b (split_dots s))

unfoldable pub trim_names : Chain → Chain
trim_names (single x) = single (trim x)
trim_names (chain x p) = chain (trim x) (trim_names p)

-- Pieces parted by `||`, then `]]`: the rest of a bracket without `::`. The number bounds how many are read.
unfoldable pub pieces_within : ℕ → Bytes → Option (List Piece × Bytes)
pieces_within zero s = None
pieces_within (suc n) s =
    let (p, r) = piece_at s in
    found (after (bytes "||") r) (λ r. pieces_within n r >>= λ l. Some (p ∷ l.0, l.1))
    (after (bytes "]]") r >>= λ r. Some (p ∷ [], r))

unfoldable pub read_pieces : Bytes → Option (List Piece × Bytes)
read_pieces s = pieces_within (suc (length s)) s

abbrev pub bracket_of : List Piece → Option RawQuery
bracket_of [] = None
bracket_of (p ∷ l) = Some (RawQuery.pieces p l)

-- A bracket's body without `::`, and its `]]`.
unfoldable pub plain_body : Bytes → Option (RawQuery × Bytes)
plain_body s = do
  (l, r) ← read_pieces s
  q ← bracket_of l
  Some (q, r)

-- What closes an alternative that is a subquery: `</q>` "with only blanks after".
unfoldable pub closed_inner : RawQuery → Bytes → Option (RawAlternatives × Bytes)
closed_inner q s = do
  r ← token (bytes "</q>") s
  Some (RawAlternatives.subquery q, behind is_blank r)

-- What closes a group.
unfoldable pub closed_group : RawQuery → Bytes → Option (RawQuery × Bytes)
closed_group q s = do
  r ← token (bytes "</q>") s
  Some (RawQuery.group q, r)

-- What closes a property body.
unfoldable pub closed_body : Chain → RawAlternatives → Bytes → Option (RawQuery × Bytes)
closed_body c a s = do
  r ← after (bytes "]]") s
  Some (RawQuery.property c a, r)

-- Where the next term of a conjunction begins: behind `AND`, or where a bracket or a group stands.
unfoldable pub next_term : Bytes → Option Bytes
next_term s =
    found (token (bytes "AND") s) Some
    (found (token (bytes "[[") s) (λ r. Some s)
    (found (token (bytes "<q>") s) (λ r. Some s) None))

-- The readers call each other; the first number bounds how deep. Below they are published without it.
unfoldable mutual
  -- "A query is conjunctions parted by `OR`"
  pub query_within : ℕ → Bytes → Option (RawQuery × Bytes)
  query_within zero s = None
  query_within (suc n) s = conjunction_within n s >>= λ q. or_within n q.0 q.1

  pub or_within : ℕ → RawQuery → Bytes → Option (RawQuery × Bytes)
  or_within zero a s = None
  or_within (suc n) a s =
      found (token (bytes "OR") s)
      (λ r. conjunction_within n r >>= λ b. or_within n (RawQuery.disjunction a b.0) b.1)
      (Some (a, s))

  -- "a conjunction is terms side by side or with `AND` between"
  pub conjunction_within : ℕ → Bytes → Option (RawQuery × Bytes)
  conjunction_within zero s = None
  conjunction_within (suc n) s = term_within n s >>= λ q. and_within n q.0 q.1

  pub and_within : ℕ → RawQuery → Bytes → Option (RawQuery × Bytes)
  and_within zero a s = None
  and_within (suc n) a s =
      found (next_term s) (λ r. term_within n r >>= λ b. and_within n (RawQuery.conjunction a b.0) b.1) (Some (a, s))

  -- "a term is a bracket or `<q>` query `</q>`"
  pub term_within : ℕ → Bytes → Option (RawQuery × Bytes)
  term_within zero s = None
  term_within (suc n) s =
      found (token (bytes "<q>") s) (λ r. query_within n r >>= λ q. closed_group q.0 q.1)
      (token (bytes "[[") s >>= λ r. body_within n r)

  -- "A bracket is `[[` body `]]`." With `::` the body is "a head, `::`, alternatives parted by `||`".
  pub body_within : ℕ → Bytes → Option (RawQuery × Bytes)
  body_within zero s = None
  body_within (suc n) s =
      found (head_length s)
      (λ k.
      only_if (all is_free (take k s))
      (alternatives_within n (drop (2 + k) s) >>= λ a. closed_body (trim_names (split_dots (take k s))) a.0 a.1))
      (plain_body s)

  pub alternatives_within : ℕ → Bytes → Option (RawAlternatives × Bytes)
  alternatives_within zero s = None
  alternatives_within (suc n) s = alternative_within n s >>= λ a. more_within n a.0 a.1

  pub more_within : ℕ → RawAlternatives → Bytes → Option (RawAlternatives × Bytes)
  more_within zero a s = None
  more_within (suc n) a s =
      found (after (bytes "||") s)
      (λ r. alternative_within n r >>= λ b. more_within n (RawAlternatives.either a b.0) b.1)
      (Some (a, s))

  -- "An alternative that begins with `<q>`, blanks aside, is a subquery, closed by `</q>` with only blanks after; any other is a
  -- piece."
  pub alternative_within : ℕ → Bytes → Option (RawAlternatives × Bytes)
  alternative_within zero s = None
  alternative_within (suc n) s =
      found (token (bytes "<q>") s) (λ r. query_within n r >>= λ q. closed_inner q.0 q.1)
      (Some (RawAlternatives.piece (piece_at s).0, (piece_at s).1))

-- Each reader with a bound that the text never reaches: four calls at the most lie between one byte and the next.
abbrev pub enough : ℕ → Bytes → ℕ
enough rank s = 4 * length s + suc rank

unfoldable pub read_query : Bytes → Option (RawQuery × Bytes)
read_query s = query_within (enough 3 s) s

unfoldable pub read_or : RawQuery → Bytes → Option (RawQuery × Bytes)
read_or a s = or_within (enough 0 s) a s

unfoldable pub read_conjunction : Bytes → Option (RawQuery × Bytes)
read_conjunction s = conjunction_within (enough 2 s) s

unfoldable pub read_and : RawQuery → Bytes → Option (RawQuery × Bytes)
read_and a s = and_within (enough 1 s) a s

unfoldable pub read_term : Bytes → Option (RawQuery × Bytes)
read_term s = term_within (enough 0 s) s

unfoldable pub read_body : Bytes → Option (RawQuery × Bytes)
read_body s = body_within (enough 0 s) s

unfoldable pub read_alternatives : Bytes → Option (RawAlternatives × Bytes)
read_alternatives s = alternatives_within (enough 1 s) s

unfoldable pub read_more : RawAlternatives → Bytes → Option (RawAlternatives × Bytes)
read_more a s = more_within (enough 0 s) a s

unfoldable pub read_alternative : Bytes → Option (RawAlternatives × Bytes)
read_alternative s = alternative_within (enough 0 s) s

-- The query that the whole text is.
unfoldable pub read_whole : Bytes → Option RawQuery
read_whole s = read_query s >>= λ q. only_if (eqb (length (behind is_blank q.1)) 0) (Some q.0)
