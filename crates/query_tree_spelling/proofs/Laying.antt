-- What is read of a text: its groups stand where the grammar wants them, and it costs no more bytes than were read.
use Rattle.std.specs.Prelude.{Option, Some}
use Prim.Native.Nat.{ℕ, zero, suc, ◌+◌, ◌≤◌}
use mathlib.Core.Path.{◌≡◌, refl, ap, ◌∙◌}
use mathlib.Core.Bool.{Bool, true, false, cond, ◌&&◌}
use mathlib.Core.List.{List, [], ◌∷◌}
use native.Mathlib.Omega.{arith}
use lib.Dec.{eqb}
use lib.ListN.{length, take, drop, length-drop, length-take}
use lib.Seq.{length-take-le}
use borrow.Author.Tests.{ne_eqb}
use Rattle.text.specs.Bytes.{Bytes, bytes, all, is_blank, span, front, behind, trim_end, unless_last, trim, starts, after}
use Rattle.text.specs.Class.{is_free}
use Rattle.text.proofs.Laws.{span_le}
use Rattle.text.proofs.Trim.{trim_le}
use Rattle.names.specs.Names.{first}
use Rattle.language.specs.Answer.{◌>>=◌, only_if}
use Rattle.language.specs.Comparators.{word, typed, first_typed, is_equal}
use Rattle.language.specs.Surface.{Chain, single, chain}
use Rattle.language.specs.RawQuery.{Piece, RawQuery, RawAlternatives, token, comparator, piece_at, head_length, split_dots, trim_names, prefixed, pieces_within, read_pieces, bracket_of, plain_body, closed_inner, closed_group, closed_body, next_term, query_within, or_within, conjunction_within, and_within, term_within, body_within, alternatives_within, more_within, alternative_within, enough, read_query, read_whole}
use Rattle.language.specs.QueryText.{is_plain}
use Rattle.language.proofs.EachComparator.{equal_no_mark}
use Rattle.language.proofs.AllComparators.{typed_fits}
use Rattle.language.proofs.Options.{OnSome, on_bind, on_found, on_weaker}
use Rattle.language.proofs.Shorter.{after_leaves, behind_leaves}
use Rattle.language.proofs.Leaving.{head_leaves, next_leaves}
use Rattle.query_tree_spelling.specs.Spelled.{cost_chain}
use Rattle.query_tree_spelling.proofs.Texts.{span_not}
use Rattle.query_tree_spelling.proofs.Reading.{is_raw_disjunction, is_raw_joined, is_raw_either}
use Rattle.query_tree_spelling.proofs.Spells.{size_piece, size_pieces}

-- How many bytes a raw query takes with no blanks and no `AND`.
unfoldable mutual
  pub size_in : RawAlternatives → ℕ
  size_in (RawAlternatives.piece p) = size_piece p
  size_in (RawAlternatives.subquery q) = 7 + size q
  size_in (RawAlternatives.either a b) = size_in a + (2 + size_in b)

  pub size : RawQuery → ℕ
  size (RawQuery.pieces p l) = 4 + size_piece p + size_pieces l
  size (RawQuery.property c a) = 6 + cost_chain c + size_in a
  size (RawQuery.group q) = 7 + size q
  size (RawQuery.disjunction a b) = size a + (2 + size b)
  size (RawQuery.conjunction a b) = size a + size b

-- Groups stand where the grammar wants them, alternatives group from the left, and a `!` at the front is a comparator.
abbrev mutual
  pub LaidIn : RawAlternatives → Type 0
  LaidIn (RawAlternatives.piece p) = is_plain p && eqb (first p.text) 33 ≡ false
  LaidIn (RawAlternatives.subquery q) = Laid q
  LaidIn (RawAlternatives.either a b) = LaidIn a × LaidIn b × (is_raw_either b ≡ false)

  pub Laid : RawQuery → Type 0
  Laid (RawQuery.pieces p l) = Unit {0}
  Laid (RawQuery.property c a) = LaidIn a
  Laid (RawQuery.group q) = Laid q
  Laid (RawQuery.disjunction a b) = Laid a × Laid b × (is_raw_disjunction b ≡ false)
  Laid (RawQuery.conjunction a b) = Laid a × Laid b × (is_raw_disjunction a ≡ false) × (is_raw_joined b ≡ false)

-- What was read, and what it took of n bytes.
abbrev pub QueryFrom : ℕ → RawQuery × Bytes → Type 0
QueryFrom n x = Laid x.0 × (size x.0 + length x.1 ≤ n)

abbrev pub ConjunctionFrom : ℕ → RawQuery × Bytes → Type 0
ConjunctionFrom n x = Laid x.0 × (is_raw_disjunction x.0 ≡ false) × (size x.0 + length x.1 ≤ n)

abbrev pub TermFrom : ℕ → RawQuery × Bytes → Type 0
TermFrom n x = Laid x.0 × (is_raw_disjunction x.0 ≡ false) × (is_raw_joined x.0 ≡ false) × (size x.0 + length x.1 ≤ n)

abbrev pub AlternativesFrom : ℕ → RawAlternatives × Bytes → Type 0
AlternativesFrom n x = LaidIn x.0 × (size_in x.0 + length x.1 ≤ n)

abbrev pub AlternativeFrom : ℕ → RawAlternatives × Bytes → Type 0
AlternativeFrom n x = LaidIn x.0 × (is_raw_either x.0 ≡ false) × (size_in x.0 + length x.1 ≤ n)

abbrev Took : ℕ → Bytes → Bytes → Type 0
Took n s r = length r + n ≤ length s

token_takes : (w s : Bytes) → OnSome (Took (length w) s) (token w s)
unfolding token
token_takes w s = on_weaker _ (Took (length w) s) (after w (behind is_blank s)) (after_leaves w (behind is_blank s)) (λ r l. let k = behind_leaves is_blank s in omega arith)

-- Comparators and pieces.
comparator_takes : (s : Bytes) → length (word (comparator s).0) + length (comparator s).1 ≤ length s
unfolding comparator
comparator_takes s = omega (arith, typed_fits typed s, length-drop (length (word (first_typed typed s))) s)

front_behind : (p : ℕ → Bool) (s : Bytes) → length (front p s) + length (behind p s) ≡ length s
front_behind p s = omega (arith, length-take-le (span p s) s (span_le p s), length-drop (span p s) s, span_le p s)

pub piece_takes : (s : Bytes) → size_piece (piece_at s).0 + length (piece_at s).1 ≤ length s
unfolding piece_at size_piece
piece_takes s =
    let r = (comparator (behind is_blank s)).1 in
    omega (arith, behind_leaves is_blank s, comparator_takes (behind is_blank s), front_behind is_free r, trim_le (front is_free r))

-- A piece with no comparator does not begin with `!`.
bare_front : (s : Bytes) → span is_blank (behind is_blank s) ≡ 0
unfolding span
bare_front [] = refl
bare_front (b ∷ s) = go (is_blank b) refl (bare_front s)
  where
    go : (t : Bool) → is_blank b ≡ t → span is_blank (behind is_blank s) ≡ 0 → span is_blank (behind is_blank (b ∷ s)) ≡ 0
    go true e h = rw (e, span) h
    go false e h = ap (λ (n : ℕ). span is_blank (drop n (b ∷ s))) (span_not is_blank b s e) ∙ span_not is_blank b s e

passes_not : (p : ℕ → Bool) (b : ℕ) (s : Bytes) → span p (b ∷ s) ≡ 0 → p b ≡ false
unfolding span
passes_not p b s h = go (p b) h
  where
    go : (t : Bool) → ◌≡◌ {A = ℕ} (elim t [ true ↦ suc (span p s) | false ↦ 0 ]) 0 → t ≡ false
    go true h = absurd (omega (arith, h))
    go false h = refl

first_kept : (b : ℕ) (t : Bytes) → is_blank b ≡ false → first (unless_last b t) ≡ b
first_kept b [] h = rw h
first_kept b (c ∷ t) h = refl

no_mark_lem : (b : ℕ) (s : Bytes) → starts (bytes "!") (b ∷ s) ≡ false → eqb b 33 ≡ false
unfolding starts
no_mark_lem b s h = go (eqb b 33) h
  where
    go : (t : Bool) → ◌≡◌ {A = Bool} (elim t [ true ↦ true | false ↦ false ]) false → t ≡ false
    go true h = h
    go false h = refl

text_first : (s : Bytes) → span is_blank s ≡ 0 → starts (bytes "!") s ≡ false → eqb (first (trim (front is_free s))) 33 ≡ false
unfolding trim trim_end span
text_first [] h e = refl
text_first (b ∷ s) h e = go (is_free b) refl
  where
    k : is_blank b ≡ false
    k = passes_not is_blank b s h

    shown : (f : Bytes) → first (trim (b ∷ f)) ≡ b
    shown f = ap (λ (n : ℕ). first (trim_end (drop n (b ∷ f)))) (span_not is_blank b f k) ∙ first_kept b (trim_end f) k

    go : (t : Bool) → is_free b ≡ t → eqb (first (trim (front is_free (b ∷ s)))) 33 ≡ false
    go true p = rw (p, span) (ap (λ (x : ℕ). eqb x 33) (shown (front is_free s)) ∙ no_mark_lem b s e)
    go false p = ap (λ (n : ℕ). eqb (first (trim (take n (b ∷ s)))) 33) (span_not is_free b s p)

marked : (s : Bytes) → span is_blank s ≡ 0 → is_equal (comparator s).0 && eqb (first (trim (front is_free (comparator s).1))) 33 ≡ false
unfolding comparator
marked s h = go (length (word (first_typed typed s))) (equal_no_mark s)
  where
    go : (n : ℕ) → (eqb n 0 ≡ true → starts (bytes "!") s ≡ false) → eqb n 0 && eqb (first (trim (front is_free (drop n s)))) 33 ≡ false
    go zero k = text_first s h (k refl)
    go (suc n) k = rw (ne_eqb (suc n) 0 (λ e. omega (arith, e)))

pub piece_laid : (s : Bytes) → LaidIn (RawAlternatives.piece (piece_at s).0)
unfolding piece_at
piece_laid s = marked (behind is_blank s) (bare_front s)

-- Heads.
split_takes : (h : Bytes) → cost_chain (split_dots h) ≤ length h
unfolding split_dots cost_chain
split_takes [] = omega arith
split_takes (b ∷ s) = go (eqb b 46) (split_takes s)
  where
    put : (c : Chain) → cost_chain (prefixed b c) ≡ suc (cost_chain c)
    put (single x) = refl
    put (chain x p) = omega arith

    go : (t : Bool) → cost_chain (split_dots s) ≤ length s → cost_chain (cond t (chain [] (split_dots s)) (prefixed b (split_dots s))) ≤ suc (length s)
    go true h = omega (arith, h)
    go false h = omega (arith, put (split_dots s))

names_take : (c : Chain) → cost_chain (trim_names c) ≤ cost_chain c
unfolding trim_names cost_chain
names_take (single x) = trim_le x
names_take (chain x p) = omega (arith, trim_le x, names_take p)

pub head_takes : (h : Bytes) → cost_chain (trim_names (split_dots h)) ≤ length h
head_takes h = omega (arith, names_take (split_dots h), split_takes h)

-- The pieces of a bracket without `::`.
pieces_take : (n : ℕ) (s : Bytes) → OnSome (λ x. size_pieces x.0 + length x.1 ≤ length s) (pieces_within n s)
unfolding pieces_within size_pieces
pieces_take zero s = tt
pieces_take (suc n) s =
    on_found _ _ (after (bytes "||") (piece_at s).1) _ _ (after_leaves (bytes "||") (piece_at s).1)
    (λ r l. on_bind _ _ (pieces_within n r) _ (pieces_take n r) (λ x m. omega (arith, piece_takes s, l, m)))
    (on_bind _ _ (after (bytes "]]") (piece_at s).1) _ (after_leaves (bytes "]]") (piece_at s).1) (λ r l. omega (arith, piece_takes s, l)))

plain_takes : (s : Bytes) → OnSome (TermFrom (2 + length s)) (plain_body s)
unfolding plain_body read_pieces size size_pieces
plain_takes s = on_bind _ (TermFrom (2 + length s)) (pieces_within (suc (length s)) s) _ (pieces_take (suc (length s)) s) (λ x l. go x.0 x.1 l)
  where
    go : (l : List Piece) (r : Bytes) → size_pieces l + length r ≤ length s → OnSome (TermFrom (2 + length s)) (bracket_of l >>= λ q. Some (q, r))
    go [] r h = tt
    go (p ∷ l) r h = (tt, refl, refl, omega (arith, h))

when_true : {A : Type 0} (P : A → Type 0) (t : Bool) (o : Option A) → OnSome P o → OnSome P (only_if t o)
when_true P true o h = h
when_true P false o h = tt

-- What closes.
group_takes : (q : RawQuery) (s : Bytes) (n : ℕ) → Laid q → 3 + size q + length s ≤ n → OnSome (TermFrom n) (closed_group q s)
unfolding closed_group size
group_takes q s n h k = on_bind (Took 4 s) (TermFrom n) (token (bytes "</q>") s) _ (token_takes (bytes "</q>") s) (λ r l. (h, refl, refl, omega (arith, l, k)))

inner_takes : (q : RawQuery) (s : Bytes) (n : ℕ) → Laid q → 3 + size q + length s ≤ n → OnSome (AlternativeFrom n) (closed_inner q s)
unfolding closed_inner size
inner_takes q s n h k = on_bind (Took 4 s) (AlternativeFrom n) (token (bytes "</q>") s) _ (token_takes (bytes "</q>") s) (λ r l. (h, refl, omega (arith, l, k, behind_leaves is_blank r)))

body_takes : (c : Chain) (a : RawAlternatives) (s : Bytes) (n : ℕ) → LaidIn a → 4 + cost_chain c + size_in a + length s ≤ n → OnSome (TermFrom n) (closed_body c a s)
unfolding closed_body size
body_takes c a s n h k = on_bind (Took 2 s) (TermFrom n) (after (bytes "]]") s) _ (after_leaves (bytes "]]") s) (λ r l. (h, refl, refl, omega (arith, l, k)))

mutual
  unfolding query_within size

  pub query_takes : (n : ℕ) (s : Bytes) → OnSome (QueryFrom (length s)) (query_within n s)
  query_takes zero s = tt
  query_takes (suc n) s =
      on_bind (ConjunctionFrom (length s)) (QueryFrom (length s)) (conjunction_within n s) _ (conjunction_takes n s)
      (λ q l. or_takes n q.0 q.1 (length s) l.0 l.2)

  or_takes : (n : ℕ) (a : RawQuery) (s : Bytes) (m : ℕ) → Laid a → size a + length s ≤ m → OnSome (QueryFrom m) (or_within n a s)
  or_takes zero a s m h k = tt
  or_takes (suc n) a s m h k =
      on_found (Took 2 s) (QueryFrom m) (token (bytes "OR") s) _ _ (token_takes (bytes "OR") s)
      (λ r l. on_bind (ConjunctionFrom (length r)) (QueryFrom m) (conjunction_within n r) _ (conjunction_takes n r)
      (λ b j. or_takes n (RawQuery.disjunction a b.0) b.1 m (h, j.0, j.1) (omega (arith, l, j.2, k))))
      (h, k)

  conjunction_takes : (n : ℕ) (s : Bytes) → OnSome (ConjunctionFrom (length s)) (conjunction_within n s)
  conjunction_takes zero s = tt
  conjunction_takes (suc n) s =
      on_bind (TermFrom (length s)) (ConjunctionFrom (length s)) (term_within n s) _ (term_takes n s)
      (λ q l. and_takes n q.0 q.1 (length s) l.0 l.1 l.3)

  and_takes : (n : ℕ) (a : RawQuery) (s : Bytes) (m : ℕ) → Laid a → is_raw_disjunction a ≡ false → size a + length s ≤ m → OnSome (ConjunctionFrom m) (and_within n a s)
  and_takes zero a s m h e k = tt
  and_takes (suc n) a s m h e k =
      on_found (λ r. length r ≤ length s) (ConjunctionFrom m) (next_term s) _ _ (next_leaves s)
      (λ r l. on_bind (TermFrom (length r)) (ConjunctionFrom m) (term_within n r) _ (term_takes n r)
      (λ b j. and_takes n (RawQuery.conjunction a b.0) b.1 m (h, j.0, e, j.2) refl (omega (arith, l, j.3, k))))
      (h, e, k)

  term_takes : (n : ℕ) (s : Bytes) → OnSome (TermFrom (length s)) (term_within n s)
  term_takes zero s = tt
  term_takes (suc n) s =
      on_found (Took 3 s) (TermFrom (length s)) (token (bytes "<q>") s) _ _ (token_takes (bytes "<q>") s)
      (λ r l. on_bind (QueryFrom (length r)) (TermFrom (length s)) (query_within n r) _ (query_takes n r)
      (λ q j. group_takes q.0 q.1 (length s) j.0 (omega (arith, l, j.1))))
      (on_bind (Took 2 s) (TermFrom (length s)) (token (bytes "[[") s) _ (token_takes (bytes "[[") s)
      (λ r l. on_weaker (TermFrom (2 + length r)) (TermFrom (length s)) (body_within n r) (bracket_takes n r) (λ x j. (j.0, j.1, j.2, omega (arith, l, j.3)))))

  bracket_takes : (n : ℕ) (s : Bytes) → OnSome (TermFrom (2 + length s)) (body_within n s)
  bracket_takes zero s = tt
  bracket_takes (suc n) s =
      on_found _ (TermFrom (2 + length s)) (head_length s) _ _ (head_leaves s)
      (λ k l. when_true (TermFrom (2 + length s)) (all is_free (take k s)) _ (on_bind (AlternativesFrom (length (drop (2 + k) s))) (TermFrom (2 + length s)) (alternatives_within n (drop (2 + k) s)) _ (alternatives_take n (drop (2 + k) s))
      (λ a j. body_takes (trim_names (split_dots (take k s))) a.0 a.1 (2 + length s) j.0 (omega (arith, j.1, l, length-drop (2 + k) s, length-take k s, head_takes (take k s))))))
      (plain_takes s)

  alternatives_take : (n : ℕ) (s : Bytes) → OnSome (AlternativesFrom (length s)) (alternatives_within n s)
  alternatives_take zero s = tt
  alternatives_take (suc n) s =
      on_bind (AlternativeFrom (length s)) (AlternativesFrom (length s)) (alternative_within n s) _ (alternative_takes n s)
      (λ a l. more_takes n a.0 a.1 (length s) l.0 l.2)

  more_takes : (n : ℕ) (a : RawAlternatives) (s : Bytes) (m : ℕ) → LaidIn a → size_in a + length s ≤ m → OnSome (AlternativesFrom m) (more_within n a s)
  more_takes zero a s m h k = tt
  more_takes (suc n) a s m h k =
      on_found (Took 2 s) (AlternativesFrom m) (after (bytes "||") s) _ _ (after_leaves (bytes "||") s)
      (λ r l. on_bind (AlternativeFrom (length r)) (AlternativesFrom m) (alternative_within n r) _ (alternative_takes n r)
      (λ b j. more_takes n (RawAlternatives.either a b.0) b.1 m (h, j.0, j.1) (omega (arith, l, j.2, k))))
      (h, k)

  alternative_takes : (n : ℕ) (s : Bytes) → OnSome (AlternativeFrom (length s)) (alternative_within n s)
  alternative_takes zero s = tt
  alternative_takes (suc n) s =
      on_found (Took 3 s) (AlternativeFrom (length s)) (token (bytes "<q>") s) _ _ (token_takes (bytes "<q>") s)
      (λ r l. on_bind (QueryFrom (length r)) (AlternativeFrom (length s)) (query_within n r) _ (query_takes n r)
      (λ q j. inner_takes q.0 q.1 (length s) j.0 (omega (arith, l, j.1))))
      (piece_laid s, refl, piece_takes s)

-- The whole text.
pub whole_takes : (s : Bytes) → OnSome (λ q. Laid q × (size q ≤ length s)) (read_whole s)
unfolding read_whole read_query
whole_takes s =
    on_bind (QueryFrom (length s)) (λ q. Laid q × (size q ≤ length s)) (query_within (enough 3 s) s) _ (query_takes (enough 3 s) s)
    (λ x l. when_true (λ q. Laid q × (size q ≤ length s)) (eqb (length (behind is_blank x.1)) 0) (Some x.0) (l.0, omega (arith, l.1)))
