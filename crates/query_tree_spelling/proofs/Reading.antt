-- A raw query whose pieces are clean and whose groups stand where they are needed is read back from its text.
use Rattle.std.specs.Prelude.{Option, Some, None}
use Prim.Native.Nat.{ℕ, ◌+◌}
use mathlib.Core.Path.{◌≡◌, refl, ap, ap₂, ◌∙◌}
use mathlib.Core.Bool.{Bool, true, false, cond, ◌&&◌, true≢false}
use mathlib.Core.List.{List, [], ◌∷◌, ◌++◌}
use native.Mathlib.Omega.{arith}
use lib.Dec.{eqb}
use lib.ListN.{length, take, drop}
use lib.Seq.{take-append_seam, drop-append-add}
use Rattle.text.specs.Bytes.{Bytes, bytes, all, is_blank, span, front, behind, trim_end, trim, starts, after}
use Rattle.text.specs.Class.{is_free}
use Rattle.language.specs.Answer.{◌>>=◌, found, only_if}
use Rattle.language.specs.Comparators.{word, is_equal}
use Rattle.language.specs.Surface.{Chain}
use Rattle.language.specs.RawQuery.{Piece, RawQuery, RawAlternatives, token, comparator, piece_at, head_length, split_dots, trim_names, read_pieces, bracket_of, plain_body, closed_inner, closed_group, closed_body, next_term, read_query, read_or, read_conjunction, read_and, read_term, read_body, read_alternatives, read_more, read_alternative, read_whole}
use Rattle.language.proofs.EachComparator.{word_no_blank, word_no_subquery}
use Rattle.language.proofs.Readers.{query_eq, or_eq, conjunction_eq, and_eq, term_eq, body_eq, alternatives_eq, more_eq, alternative_eq, pieces_eq}
use Rattle.language.proofs.Members.{and_true}
use Rattle.language.specs.declared.SurfaceComparator.{SurfaceComparator}
use Rattle.query_tree_spelling.specs.Spelling.{unread_piece, unread_pieces, unread_chain, unread_in, unread}
use Rattle.query_tree_spelling.proofs.Texts.{front_part, behind_part, behind_none, span_not, trim_none, comparator_reads, free_not}

-- A clean piece: free bytes, no blanks at its ends, no comparator hidden in its text.
abbrev pub CleanText : SurfaceComparator → Bytes → Type 0
CleanText c [] = ⊥
CleanText c (b ∷ t) = (is_blank b ≡ false) × (all is_free (b ∷ t) ≡ true) × (trim_end (b ∷ t) ≡ b ∷ t) × (is_equal c ≡ true → eqb b 33 ≡ false)

abbrev pub Clean : Piece → Type 0
Clean p = CleanText p.comparator p.text

abbrev pub AllClean : List Piece → Type 0
AllClean [] = Unit {0}
AllClean (p ∷ l) = Clean p × AllClean l

-- What stands before a piece's text hides nothing.
word_bare : (c : SurfaceComparator) (b : ℕ) (s : Bytes) → is_blank b ≡ false → behind is_blank (word c ++ (b ∷ s)) ≡ word c ++ (b ∷ s)
word_bare c b s h = behind_none is_blank (word c ++ (b ∷ s)) (word_no_blank c (b ∷ s) (span_not is_blank b s h))

text_reads : (c : SurfaceComparator) (t s : Bytes) → CleanText c t → span is_free s ≡ 0 → piece_at (word c ++ (t ++ s)) ≡ (record { comparator = c; text = t }, s)
unfolding piece_at all
text_reads c [] s h e = absurd h
text_reads c (b ∷ t) s h e = ap f (ap comparator (word_bare c b (t ++ s) h.0) ∙ comparator_reads c b (t ++ s) (free_first b t h.1) h.3) ∙ ap₂ (λ (x y : Bytes). (record { comparator = c; text = x }, y)) (ap trim (front_part is_free (b ∷ t) s h.1 e) ∙ trim_none b t h.0 h.2) (behind_part is_free (b ∷ t) s h.1 e)
  where
    f : SurfaceComparator × Bytes → Piece × Bytes
    f x = (record { comparator = x.0; text = trim (front is_free x.1) }, behind is_free x.1)

    free_first : (b : ℕ) (t : Bytes) → all is_free (b ∷ t) ≡ true → is_free b ≡ true
    free_first b t h = go (is_free b) (all is_free t) h
      where
        go : (x y : Bool) → x && y ≡ true → x ≡ true
        go true y h = refl
        go false y h = h

pub piece_reads : (p : Piece) (s : Bytes) → Clean p → span is_free s ≡ 0 → piece_at (unread_piece p s) ≡ (p, s)
unfolding unread_piece
piece_reads p s h e = text_reads p.comparator p.text s h e

rest_stops : (l : List Piece) (s : Bytes) → span is_free (unread_pieces l s) ≡ 0
unfolding unread_pieces span is_free Rattle.text.specs.Bytes.any
rest_stops [] s = refl
rest_stops (p ∷ l) s = refl

onward : Piece × Bytes → Option (List Piece × Bytes)
onward x = found (after (bytes "||") x.1) (λ r. read_pieces r >>= λ l. Some (x.0 ∷ l.0, l.1)) (after (bytes "]]") x.1 >>= λ r. Some (x.0 ∷ [], r))

first_read : (p : Piece) (l : List Piece) (s : Bytes) → Clean p → read_pieces (unread_piece p (unread_pieces l s)) ≡ onward (p, unread_pieces l s)
unfolding onward
first_read p l s h = pieces_eq (unread_piece p (unread_pieces l s)) ∙ ap onward (piece_reads p (unread_pieces l s) h (rest_stops l s))

pub pieces_read : (p : Piece) (l : List Piece) (s : Bytes) → Clean p → AllClean l → read_pieces (unread_piece p (unread_pieces l s)) ≡ Some (p ∷ l, s)
unfolding onward unread_pieces after starts
pieces_read p [] s h k = first_read p [] s h
pieces_read p (q ∷ l) s h k = first_read p (q ∷ l) s h ∙ ap (λ (o : Option (List Piece × Bytes)). o >>= λ l. Some (p ∷ l.0, l.1)) (pieces_read q l s k.0 k.1)

-- What may follow an alternative.
abbrev pub Ends : Bytes → Type 0
Ends s = (span is_free s ≡ 0) × (span is_blank s ≡ 0) × (starts (bytes ">") s ≡ false)

-- The levels of the grammar.
abbrev pub is_raw_disjunction : RawQuery → Bool
is_raw_disjunction (RawQuery.pieces p l) = false
is_raw_disjunction (RawQuery.property c a) = false
is_raw_disjunction (RawQuery.group q) = false
is_raw_disjunction (RawQuery.disjunction a b) = true
is_raw_disjunction (RawQuery.conjunction a b) = false

abbrev pub is_raw_joined : RawQuery → Bool
is_raw_joined (RawQuery.pieces p l) = false
is_raw_joined (RawQuery.property c a) = false
is_raw_joined (RawQuery.group q) = false
is_raw_joined (RawQuery.disjunction a b) = true
is_raw_joined (RawQuery.conjunction a b) = true

abbrev pub is_raw_either : RawAlternatives → Bool
is_raw_either (RawAlternatives.piece p) = false
is_raw_either (RawAlternatives.subquery q) = false
is_raw_either (RawAlternatives.either a b) = true

-- What is read back.
pub record CleanHead (c : Chain) : Type 0 where
  pub head : (s : Bytes) → head_length (unread_chain c ++ (bytes "::" ++ s)) ≡ Some (length (unread_chain c))
  pub free : all is_free (unread_chain c) ≡ true
  pub names : trim_names (split_dots (unread_chain c)) ≡ c

pub record CleanFirst (p : Piece) : Type 0 where
  pub headless : (s : Bytes) → head_length s ≡ None → head_length (unread_piece p s) ≡ None

abbrev mutual
  pub ProperIn : RawAlternatives → Type 0
  ProperIn (RawAlternatives.piece p) = Clean p
  ProperIn (RawAlternatives.subquery q) = Proper q
  ProperIn (RawAlternatives.either a b) = ProperIn a × ProperIn b × (is_raw_either b ≡ false)

  pub Proper : RawQuery → Type 0
  Proper (RawQuery.pieces p l) = CleanFirst p × Clean p × AllClean l
  Proper (RawQuery.property c a) = CleanHead c × ProperIn a
  Proper (RawQuery.group q) = Proper q
  Proper (RawQuery.disjunction a b) = Proper a × Proper b × (is_raw_disjunction b ≡ false)
  Proper (RawQuery.conjunction a b) = Proper a × Proper b × (is_raw_disjunction a ≡ false) × (is_raw_joined b ≡ false)

-- The readers on a text.
abbrev AsTerm : RawQuery → Type 0
AsTerm q = (s : Bytes) → read_term (unread q s) ≡ Some (q, s)

abbrev AsConjunction : RawQuery → Type 0
AsConjunction q = (s : Bytes) → read_conjunction (unread q s) ≡ read_and q s

abbrev AsQuery : RawQuery → Type 0
AsQuery q = (s : Bytes) → next_term s ≡ None → read_query (unread q s) ≡ read_or q s

pub record Reads (q : RawQuery) : Type 0 where
  pub term : is_raw_joined q ≡ false → AsTerm q
  pub conjunction : is_raw_disjunction q ≡ false → AsConjunction q
  pub query : AsQuery q

pub record ReadsIn (a : RawAlternatives) : Type 0 where
  pub one : is_raw_either a ≡ false → (s : Bytes) → Ends s → read_alternative (unread_in a s) ≡ Some (a, s)
  pub more : (s : Bytes) → Ends s → read_alternatives (unread_in a s) ≡ read_more a s

conjunction_of : (q : RawQuery) → AsTerm q → AsConjunction q
conjunction_of q h s = conjunction_eq (unread q s) ∙ ap (λ (o : Option (RawQuery × Bytes)). o >>= λ q. read_and q.0 q.1) (h s)

no_and : (q : RawQuery) (s : Bytes) → next_term s ≡ None → read_and q s ≡ Some (q, s)
no_and q s h = and_eq s q ∙ rw h

no_or : (q : RawQuery) (s : Bytes) → token (bytes "OR") s ≡ None → read_or q s ≡ Some (q, s)
no_or q s h = or_eq s q ∙ rw h

query_of_lem : (q : RawQuery) → AsConjunction q → AsQuery q
query_of_lem q h s e = query_eq (unread q s) ∙ ap (λ (o : Option (RawQuery × Bytes)). o >>= λ q. read_or q.0 q.1) (h s ∙ no_and q s e)

from_term : (q : RawQuery) → AsTerm q → Reads q
from_term q h = record { term = λ e. h; conjunction = λ e. conjunction_of q h; query = query_of_lem q (conjunction_of q h) }

-- A term's text begins with `[[` or `<q>`, so it is a next term.
next_bracket : (s : Bytes) → next_term (bytes "[[" ++ s) ≡ Some (bytes "[[" ++ s)
unfolding next_term token after starts span
next_bracket s = refl

next_group : (s : Bytes) → next_term (bytes "<q>" ++ s) ≡ Some (bytes "<q>" ++ s)
unfolding next_term token after starts span
next_group s = refl

next_is : (q : RawQuery) (s : Bytes) → is_raw_joined q ≡ false → next_term (unread q s) ≡ Some (unread q s)
unfolding unread
next_is (RawQuery.pieces p l) s h = next_bracket _
next_is (RawQuery.property c a) s h = next_bracket _
next_is (RawQuery.group q) s h = next_group _
next_is (RawQuery.disjunction a b) s h = absurd (true≢false h)
next_is (RawQuery.conjunction a b) s h = absurd (true≢false h)

next_or : (s : Bytes) → next_term (bytes "OR" ++ s) ≡ None
unfolding next_term token after starts span
next_or s = refl

next_close : (s : Bytes) → next_term (bytes "</q>" ++ s) ≡ None
unfolding next_term token after starts span
next_close s = refl

or_close : (s : Bytes) → token (bytes "OR") (bytes "</q>" ++ s) ≡ None
unfolding token after starts span
or_close s = refl

or_stands : (q : RawQuery) (s : Bytes) → read_or q (bytes "OR" ++ s) ≡ (read_conjunction s >>= λ b. read_or (RawQuery.disjunction q b.0) b.1)
unfolding token after starts span
or_stands q s = or_eq (bytes "OR" ++ s) q

-- Terms, by how they begin.
term_group : (s : Bytes) → read_term (bytes "<q>" ++ s) ≡ (read_query s >>= λ q. closed_group q.0 q.1)
unfolding token after starts span
term_group s = term_eq (bytes "<q>" ++ s)

term_bracket : (s : Bytes) → read_term (bytes "[[" ++ s) ≡ read_body s
unfolding token after starts span
term_bracket s = term_eq (bytes "[[" ++ s)

closes_group : (q : RawQuery) (s : Bytes) → closed_group q (bytes "</q>" ++ s) ≡ Some (RawQuery.group q, s)
unfolding closed_group token after starts span
closes_group q s = refl

closes_inner : (q : RawQuery) (s : Bytes) → span is_blank s ≡ 0 → closed_inner q (bytes "</q>" ++ s) ≡ Some (RawAlternatives.subquery q, s)
unfolding closed_inner token after starts span
closes_inner q s e = ap (λ (r : Bytes). Some (RawAlternatives.subquery q, r)) (behind_none is_blank s e)

closes_body : (c : Chain) (a : RawAlternatives) (s : Bytes) → closed_body c a (bytes "]]" ++ s) ≡ Some (RawQuery.property c a, s)
unfolding closed_body after starts
closes_body c a s = refl

within : (q : RawQuery) → AsQuery q → (s : Bytes) → read_query (unread q (bytes "</q>" ++ s)) ≡ Some (q, bytes "</q>" ++ s)
within q h s = h (bytes "</q>" ++ s) (next_close s) ∙ no_or q (bytes "</q>" ++ s) (or_close s)

group_reads : (q : RawQuery) → AsQuery q → AsTerm (RawQuery.group q)
unfolding unread
group_reads q h s =
    term_group (unread q (bytes "</q>" ++ s))
    ∙ ap (λ (o : Option (RawQuery × Bytes)). o >>= λ q. closed_group q.0 q.1) (within q h s)
    ∙ closes_group q s

-- A bracket without a head.
rest_headless : (l : List Piece) (s : Bytes) → head_length (unread_pieces l s) ≡ None
unfolding unread_pieces head_length starts
rest_headless [] s = refl
rest_headless (p ∷ l) s = refl

plain_reads : (p : Piece) (l : List Piece) → CleanFirst p → Clean p → AllClean l → AsTerm (RawQuery.pieces p l)
unfolding unread plain_body
plain_reads p l f h k s =
    let body = unread_piece p (unread_pieces l s) in
    term_bracket body ∙ body_eq body
    ∙ ap (λ (o : Option ℕ). found o (λ k. only_if (all is_free (take k body)) (read_alternatives (drop (2 + k) body) >>= λ a. closed_body (trim_names (split_dots (take k body))) a.0 a.1)) (plain_body body)) (f.headless (unread_pieces l s) (rest_headless l s))
    ∙ ap (λ (o : Option (List Piece × Bytes)). o >>= λ x. bracket_of x.0 >>= λ q. Some (q, x.1)) (pieces_read p l s h k)

-- A bracket with a head.
head_eq : (c : Chain) (s : Bytes) → CleanHead c → read_body (unread_chain c ++ (bytes "::" ++ s)) ≡ (read_alternatives s >>= λ a. closed_body c a.0 a.1)
head_eq c s h =
    let u = unread_chain c in
    let t = bytes "::" ++ s in
    let e : 2 + length u ≡ length u + 2 = omega arith in
    let d = ap (λ (n : ℕ). drop n (u ++ t)) e ∙ drop-append-add u t 2 in
    body_eq (u ++ t) ∙ rw (h.head s, take-append_seam u t, h.free, h.names, d)

ends_close : (s : Bytes) → Ends (bytes "]]" ++ s)
unfolding span starts is_free Rattle.text.specs.Bytes.any
ends_close s = (refl, refl, refl)

ends_bar : (s : Bytes) → Ends (bytes "||" ++ s)
unfolding span starts is_free Rattle.text.specs.Bytes.any
ends_bar s = (refl, refl, refl)

no_more : (a : RawAlternatives) (s : Bytes) → read_more a (bytes "]]" ++ s) ≡ Some (a, bytes "]]" ++ s)
unfolding after starts
no_more a s = more_eq (bytes "]]" ++ s) a

more_stands : (a : RawAlternatives) (s : Bytes) → read_more a (bytes "||" ++ s) ≡ (read_alternative s >>= λ b. read_more (RawAlternatives.either a b.0) b.1)
unfolding after starts
more_stands a s = more_eq (bytes "||" ++ s) a

property_reads : (c : Chain) (a : RawAlternatives) → CleanHead c → ReadsIn a → AsTerm (RawQuery.property c a)
unfolding unread
property_reads c a h r s =
    term_bracket (unread_chain c ++ (bytes "::" ++ unread_in a (bytes "]]" ++ s)))
    ∙ head_eq c (unread_in a (bytes "]]" ++ s)) h
    ∙ ap (λ (o : Option (RawAlternatives × Bytes)). o >>= λ a. closed_body c a.0 a.1) (r.more (bytes "]]" ++ s) (ends_close s) ∙ no_more a s)
    ∙ closes_body c a s

from_one : (a : RawAlternatives) → ((s : Bytes) → Ends s → read_alternative (unread_in a s) ≡ Some (a, s)) → ReadsIn a
from_one a h = record { one = λ e. h; more = λ s e. alternatives_eq (unread_in a s) ∙ ap (λ (o : Option (RawAlternatives × Bytes)). o >>= λ a. read_more a.0 a.1) (h s e) }

-- A piece is no subquery: `<` before `q` is a comparator.
no_word : (b : ℕ) (s : Bytes) → is_free b ≡ true → starts (bytes "<q>") (b ∷ s) ≡ false
unfolding starts
no_word b s h = rw ((free_not b h).3, starts)

later_false : (c : ℕ) (w : Bytes) (b : ℕ) (s : Bytes) → starts w s ≡ false → starts (c ∷ w) (b ∷ s) ≡ false
unfolding starts
later_false c w b s h = go (eqb b c)
  where
    go : (t : Bool) → ◌≡◌ {A = Bool} (elim t [ true ↦ starts w s | false ↦ false ]) false
    go true = h
    go false = refl

no_greater : (t s : Bytes) → all is_free t ≡ true → starts (bytes ">") s ≡ false → starts (bytes ">") (t ++ s) ≡ false
unfolding starts all
no_greater [] s h e = e
no_greater (b ∷ t) s h e = rw ((free_not b (and_true (is_free b) (all is_free t) h).0).4, starts)

no_subquery : (c : SurfaceComparator) (t s : Bytes) → CleanText c t → starts (bytes ">") s ≡ false → token (bytes "<q>") (word c ++ (t ++ s)) ≡ None
unfolding token after starts all
no_subquery c [] s h e = absurd h
no_subquery c (b ∷ t) s h e =
    let k = and_true (is_free b) (all is_free t) h.1 in
    ap (after (bytes "<q>")) (word_bare c b (t ++ s) h.0)
    ∙ ap (λ (x : Bool). cond x (Some (drop 3 (word c ++ (b ∷ t ++ s)))) None)
    (word_no_subquery c (b ∷ t ++ s) (no_word b (t ++ s) k.0) (later_false 113 (bytes ">") b (t ++ s) (no_greater t s k.1 e)))

piece_alternative : (p : Piece) → Clean p → ReadsIn (RawAlternatives.piece p)
unfolding unread unread_piece
piece_alternative p h = from_one (RawAlternatives.piece p) (λ s e. alternative_eq (unread_piece p s) ∙ ap (λ (o : Option Bytes). found o (λ r. read_query r >>= λ q. closed_inner q.0 q.1) (Some (RawAlternatives.piece (piece_at (unread_piece p s)).0, (piece_at (unread_piece p s)).1))) (no_subquery p.comparator p.text s h e.2) ∙ ap (λ (x : Piece × Bytes). Some (RawAlternatives.piece x.0, x.1)) (piece_reads p s h e.0))

subquery_alternative : (q : RawQuery) → AsQuery q → ReadsIn (RawAlternatives.subquery q)
unfolding unread token after starts span
subquery_alternative q h = from_one (RawAlternatives.subquery q) (λ s e.
    alternative_eq (bytes "<q>" ++ unread q (bytes "</q>" ++ s))
    ∙ ap (λ (o : Option (RawQuery × Bytes)). o >>= λ q. closed_inner q.0 q.1) (within q h s)
    ∙ closes_inner q s e.1)

mutual
  unfolding unread

  pub reads_in : (a : RawAlternatives) → ProperIn a → ReadsIn a
  reads_in (RawAlternatives.piece p) h = piece_alternative p h
  reads_in (RawAlternatives.subquery q) h = subquery_alternative q (reads q h).query
  reads_in (RawAlternatives.either a b) h =
      record {
        one = λ e. absurd (true≢false e);
        more = λ s e.
            (reads_in a h.0).more (bytes "||" ++ unread_in b s) (ends_bar (unread_in b s))
            ∙ more_stands a (unread_in b s)
            ∙ ap (λ (o : Option (RawAlternatives × Bytes)). o >>= λ b. read_more (RawAlternatives.either a b.0) b.1) ((reads_in b h.1).one h.2 s e);
      }

  pub reads : (q : RawQuery) → Proper q → Reads q
  reads (RawQuery.pieces p l) h = from_term (RawQuery.pieces p l) (plain_reads p l h.0 h.1 h.2)
  reads (RawQuery.property c a) h = from_term (RawQuery.property c a) (property_reads c a h.0 (reads_in a h.1))
  reads (RawQuery.group q) h = from_term (RawQuery.group q) (group_reads q (reads q h).query)
  reads (RawQuery.disjunction a b) h =
      record {
        term = λ e. absurd (true≢false e);
        conjunction = λ e. absurd (true≢false e);
        query = λ s e.
            (reads a h.0).query (bytes "OR" ++ unread b s) (next_or (unread b s))
            ∙ or_stands a (unread b s)
            ∙ ap (λ (o : Option (RawQuery × Bytes)). o >>= λ b. read_or (RawQuery.disjunction a b.0) b.1) ((reads b h.1).conjunction h.2 s ∙ no_and b s e);
      }
  reads (RawQuery.conjunction a b) h =
      let whole : AsConjunction (RawQuery.conjunction a b) = λ s.
      (reads a h.0).conjunction h.2 (unread b s)
      ∙ and_eq (unread b s) a
      ∙ ap (λ (o : Option Bytes). found o (λ r. read_term r >>= λ b. read_and (RawQuery.conjunction a b.0) b.1) (Some (a, unread b s))) (next_is b s h.3)
      ∙ ap (λ (o : Option (RawQuery × Bytes)). o >>= λ b. read_and (RawQuery.conjunction a b.0) b.1) ((reads b h.1).term h.3 s) in
      record { term = λ e. absurd (true≢false e); conjunction = λ e. whole; query = query_of_lem (RawQuery.conjunction a b) whole }

-- The whole text.
pub whole_reads : (q : RawQuery) → Proper q → read_whole (unread q []) ≡ Some q
unfolding read_whole next_term token after starts span
whole_reads q h = ap (λ (o : Option (RawQuery × Bytes)). o >>= λ q. only_if (eqb (length (behind is_blank q.1)) 0) (Some q.0)) ((reads q h).query [] refl ∙ no_or q [] refl)
