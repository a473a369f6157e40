-- The shortest text of a surface query, by the raw query that it is read as.
use Rattle.std.specs.Prelude.{Bool, cond, List, [], ◌∷◌, ◌++◌}
use Rattle.text.specs.Bytes.{Bytes, bytes}
use Rattle.values.specs.Names.{Reference, bare, qualified}
use Rattle.language.specs.Comparators.{word}
use Rattle.language.specs.Surface.{Chain, single, chain, Categories, Identifiers, Alternatives, Query}
use Rattle.language.specs.RawQuery.{Piece, RawAlternatives, RawQuery}
use Rattle.language.specs.declared.SurfaceComparator.{SurfaceComparator}
use Rattle.query_tree_spelling.specs.Spelled.{is_disjunction, is_joined}

-- A piece with no comparator.
unfoldable pub plain : Bytes → Piece
plain x = record { comparator = SurfaceComparator.Equal; text = x }

unfoldable pub compared : SurfaceComparator → Bytes → Piece
compared c x = record { comparator = c; text = x }

unfoldable pub reference_text : Reference → Bytes
reference_text (bare x) = x
reference_text (qualified n x) = n ++ (58 ∷ x)

-- An alternative's piece; there is none for a right operand that has alternatives.
abbrev pub category_piece : Categories → Piece
category_piece (Categories.one x) = plain x
category_piece (Categories.either a b) = plain []

abbrev pub identifier_piece : Identifiers → Piece
identifier_piece (Identifiers.namespace n) = plain (n ++ bytes ":+")
identifier_piece (Identifiers.reference c r) = compared c (reference_text r)
identifier_piece (Identifiers.either a b) = plain []

-- The raw query of alternatives, before pieces that follow them.
unfoldable pub raw_categories : Categories → List Piece → RawQuery
raw_categories (Categories.one x) l = RawQuery.pieces (plain (bytes "Category:" ++ x)) l
raw_categories (Categories.either a b) l = raw_categories a (category_piece b ∷ l)

unfoldable pub raw_identifiers : Identifiers → List Piece → RawQuery
raw_identifiers (Identifiers.namespace n) l = RawQuery.pieces (identifier_piece (Identifiers.namespace n)) l
raw_identifiers (Identifiers.reference c r) l = RawQuery.pieces (identifier_piece (Identifiers.reference c r)) l
raw_identifiers (Identifiers.either a b) l = raw_identifiers a (identifier_piece b ∷ l)

-- A group where one is needed.
abbrev pub group_if : Bool → RawQuery → RawQuery
group_if t q = cond t (RawQuery.group q) q

unfoldable mutual
  pub raw_in : Alternatives → RawAlternatives
  raw_in Alternatives.existence = RawAlternatives.piece (plain (bytes "+"))
  raw_in (Alternatives.value c v) = RawAlternatives.piece (compared c v)
  raw_in (Alternatives.subquery q) = RawAlternatives.subquery (raw q)
  raw_in (Alternatives.either a b) = RawAlternatives.either (raw_in a) (raw_in b)

  pub raw : Query → RawQuery
  raw (Query.category c) = raw_categories c []
  raw (Query.identifier i) = raw_identifiers i []
  raw (Query.property p a) = RawQuery.property p (raw_in a)
  raw (Query.disjunction a b) = RawQuery.disjunction (raw a) (group_if (is_disjunction b) (raw b))
  raw (Query.conjunction a b) = RawQuery.conjunction (group_if (is_disjunction a) (raw a)) (group_if (is_joined b) (raw b))

-- The text of what was read, with no blanks and no `AND`, before what follows it.
unfoldable pub unread_piece : Piece → Bytes → Bytes
unread_piece p s = word p.comparator ++ (p.text ++ s)

unfoldable pub unread_pieces : List Piece → Bytes → Bytes
unread_pieces [] s = bytes "]]" ++ s
unread_pieces (p ∷ l) s = bytes "||" ++ unread_piece p (unread_pieces l s)

unfoldable pub unread_chain : Chain → Bytes
unread_chain (single x) = x
unread_chain (chain x p) = x ++ (46 ∷ unread_chain p)

unfoldable mutual
  pub unread_in : RawAlternatives → Bytes → Bytes
  unread_in (RawAlternatives.piece p) s = unread_piece p s
  unread_in (RawAlternatives.subquery q) s = bytes "<q>" ++ unread q (bytes "</q>" ++ s)
  unread_in (RawAlternatives.either a b) s = unread_in a (bytes "||" ++ unread_in b s)

  pub unread : RawQuery → Bytes → Bytes
  unread (RawQuery.pieces p l) s = bytes "[[" ++ unread_piece p (unread_pieces l s)
  unread (RawQuery.property c a) s = bytes "[[" ++ (unread_chain c ++ (bytes "::" ++ unread_in a (bytes "]]" ++ s)))
  unread (RawQuery.group q) s = bytes "<q>" ++ unread q (bytes "</q>" ++ s)
  unread (RawQuery.disjunction a b) s = unread a (bytes "OR" ++ unread b s)
  unread (RawQuery.conjunction a b) s = unread a (unread b s)

-- The shortest text.
unfoldable pub spell : Query → Bytes
spell q = unread (raw q) []
