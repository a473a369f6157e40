-- Every reader of the query text leaves less of it, or no more.
use Rattle.std.specs.Prelude.{Option, Some, None}
use Prim.Native.Nat.{ℕ, zero, suc, ◌+◌, ◌≤◌, ◌<◌}
use mathlib.Core.Path.{◌≡◌, refl}
use mathlib.Core.Bool.{Bool, true, false}
use mathlib.Core.List.{List, [], ◌∷◌}
use native.Mathlib.Omega.{arith}
use lib.ListN.{length, take, drop, length-drop}
use Rattle.text.specs.Bytes.{Bytes, bytes, all, is_blank, behind, starts, after}
use Rattle.text.specs.Class.{is_free}
use Rattle.text.proofs.Laws.{starts_fits}
use Rattle.values.specs.Values.{map_option}
use Rattle.language.specs.Answer.{found, only_if}
use Rattle.language.specs.Comparators.{word, typed, first_typed}
use Rattle.language.specs.Surface.{Chain}
use Rattle.language.specs.RawQuery.{Piece, RawQuery, RawAlternatives, token, comparator, piece_at, ends_head, head_length, split_dots, trim_names, pieces_within, read_pieces, bracket_of, plain_body, closed_inner, closed_group, closed_body, next_term, query_within, or_within, conjunction_within, and_within, term_within, body_within, alternatives_within, more_within, alternative_within}
use Rattle.language.proofs.Options.{OnSome, on_bind, on_found, on_weaker}
use Rattle.language.proofs.Shorter.{Less, NoMore, after_leaves, behind_leaves}

abbrev pub Behind : Bytes → Bytes → Type 0
Behind s r = length r < length s

pub token_leaves : (w s : Bytes) → 1 ≤ length w → OnSome (Behind s) (token w s)
unfolding token
token_leaves w s h =
    on_weaker _ (Behind s) (after w (behind is_blank s)) (after_leaves w (behind is_blank s))
    (λ r l. let k = behind_leaves is_blank s in omega arith)

pub comparator_leaves : (s : Bytes) → length (comparator s).1 ≤ length s
unfolding comparator
comparator_leaves s = omega (arith, length-drop (length (word (first_typed typed s))) s)

pub piece_leaves : (s : Bytes) → length (piece_at s).1 ≤ length s
unfolding piece_at
piece_leaves s =
    omega (arith, behind_leaves is_blank s, comparator_leaves (behind is_blank s), behind_leaves is_free (comparator (behind is_blank s)).1)

pub head_leaves : (s : Bytes) → OnSome (λ k. 2 + k ≤ length s) (head_length s)
unfolding head_length
head_leaves [] = tt
head_leaves (b ∷ s) = go (starts (bytes "::") (b ∷ s)) (ends_head (b ∷ s)) refl (head_leaves s)
  where
    shifted : (o : Option ℕ) → OnSome (λ k. 2 + k ≤ length s) o → OnSome (λ k. 2 + k ≤ suc (length s)) (map_option suc o)
    shifted None h = tt
    shifted (Some k) h = omega (arith, h)

    go : (t u : Bool) → starts (bytes "::") (b ∷ s) ≡ t → OnSome (λ k. 2 + k ≤ length s) (head_length s)
        → OnSome (λ k. 2 + k ≤ suc (length s)) (elim t [ true ↦ Some 0 | false ↦ elim u [ true ↦ None | false ↦ map_option suc (head_length s) ] ])
    go true u e h = let f = starts_fits (bytes "::") (b ∷ s) e in omega arith
    go false true e h = tt
    go false false e h = shifted (head_length s) h

pub drop_leaves : (k : ℕ) (s : Bytes) → 2 + k ≤ length s → length (drop (2 + k) s) < length s
drop_leaves k s h = omega (arith, length-drop (2 + k) s)

pub next_leaves : (s : Bytes) → OnSome (λ r. length r ≤ length s) (next_term s)
unfolding next_term
next_leaves s =
    at_found (bytes "AND") Some _ (omega arith) (λ r l. omega arith)
    (at_found (bytes "[[") (λ r. Some s) _ (omega arith) (λ r l. omega arith)
    (at_found (bytes "<q>") (λ r. Some s) None (omega arith) (λ r l. omega arith) tt))
  where
    at_found : (w : Bytes) (f : Bytes → Option Bytes) (y : Option Bytes) → 1 ≤ length w → ((r : Bytes) → Behind s r → OnSome (λ r. length r ≤ length s) (f r)) → OnSome (λ r. length r ≤ length s) y → OnSome (λ r. length r ≤ length s) (found (token w s) f y)
    at_found w f y h k z = on_found (Behind s) _ (token w s) f y (token_leaves w s h) k z

-- what closes leaves less
group_leaves : (q : RawQuery) (s : Bytes) → OnSome (Less s) (closed_group q s)
unfolding closed_group
group_leaves q s = on_bind (Behind s) (Less s) (token (bytes "</q>") s) _ (token_leaves (bytes "</q>") s (omega arith)) (λ r l. l)

inner_leaves : (q : RawQuery) (s : Bytes) → OnSome (Less s) (closed_inner q s)
unfolding closed_inner
inner_leaves q s = on_bind (Behind s) (Less s) (token (bytes "</q>") s) _ (token_leaves (bytes "</q>") s (omega arith)) (λ r l. omega (arith, behind_leaves is_blank r))

body_leaves : (c : Chain) (a : RawAlternatives) (s : Bytes) → OnSome (Less s) (closed_body c a s)
unfolding closed_body
body_leaves c a s = on_bind _ (Less s) (after (bytes "]]") s) _ (after_leaves (bytes "]]") s) (λ r l. omega arith)

-- the pieces of a bracket without `::`
pub pieces_leave : (n : ℕ) (s : Bytes) → OnSome (Less s) (pieces_within n s)
unfolding pieces_within
pieces_leave zero s = tt
pieces_leave (suc n) s =
    on_found _ (Less s) (after (bytes "||") (piece_at s).1) _ _ (after_leaves (bytes "||") (piece_at s).1)
    (λ r l. on_bind (Less r) (Less s) (pieces_within n r) _ (pieces_leave n r) (λ x m. let k = piece_leaves s in omega arith))
    (on_bind _ (Less s) (after (bytes "]]") (piece_at s).1) _ (after_leaves (bytes "]]") (piece_at s).1) (λ r l. let k = piece_leaves s in omega arith))

pub plain_leaves : (s : Bytes) → OnSome (Less s) (plain_body s)
unfolding plain_body read_pieces
plain_leaves s =
    on_bind (Less s) (Less s) (pieces_within (suc (length s)) s) _ (pieces_leave (suc (length s)) s)
    (λ x l. on_bind (λ q. Unit {0}) (Less s) (bracket_of x.0) _ (any_bracket x.0) (λ q t. l))
  where
    any_bracket : (l : List Piece) → OnSome (λ q. Unit {0}) (bracket_of l)
    any_bracket [] = tt
    any_bracket (p ∷ l) = tt

when_free : (s : Bytes) (t : Bool) (o : Option (RawQuery × Bytes)) → OnSome (Less s) o → OnSome (Less s) (only_if t o)
when_free s true o h = h
when_free s false o h = tt

mutual
  unfolding query_within

  pub query_leaves : (n : ℕ) (s : Bytes) → OnSome (Less s) (query_within n s)
  query_leaves zero s = tt
  query_leaves (suc n) s =
      on_bind (Less s) (Less s) (conjunction_within n s) _ (conjunction_leaves n s)
      (λ q l. on_weaker _ (Less s) (or_within n q.0 q.1) (or_leaves n q.0 q.1) (λ x m. omega arith))

  pub or_leaves : (n : ℕ) (a : RawQuery) (s : Bytes) → OnSome (NoMore s) (or_within n a s)
  or_leaves zero a s = tt
  or_leaves (suc n) a s =
      on_found (Behind s) (NoMore s) (token (bytes "OR") s) _ _ (token_leaves (bytes "OR") s (omega arith))
      (λ r l. on_bind (Less r) (NoMore s) (conjunction_within n r) _ (conjunction_leaves n r)
      (λ b m. on_weaker _ (NoMore s) (or_within n (RawQuery.disjunction a b.0) b.1) (or_leaves n (RawQuery.disjunction a b.0) b.1) (λ x k. omega arith)))
      (omega arith)

  pub conjunction_leaves : (n : ℕ) (s : Bytes) → OnSome (Less s) (conjunction_within n s)
  conjunction_leaves zero s = tt
  conjunction_leaves (suc n) s =
      on_bind (Less s) (Less s) (term_within n s) _ (term_leaves n s)
      (λ q l. on_weaker _ (Less s) (and_within n q.0 q.1) (and_leaves n q.0 q.1) (λ x m. omega arith))

  pub and_leaves : (n : ℕ) (a : RawQuery) (s : Bytes) → OnSome (NoMore s) (and_within n a s)
  and_leaves zero a s = tt
  and_leaves (suc n) a s =
      on_found _ (NoMore s) (next_term s) _ _ (next_leaves s)
      (λ r l. on_bind (Less r) (NoMore s) (term_within n r) _ (term_leaves n r)
      (λ b m. on_weaker _ (NoMore s) (and_within n (RawQuery.conjunction a b.0) b.1) (and_leaves n (RawQuery.conjunction a b.0) b.1) (λ x k. omega arith)))
      (omega arith)

  pub term_leaves : (n : ℕ) (s : Bytes) → OnSome (Less s) (term_within n s)
  term_leaves zero s = tt
  term_leaves (suc n) s =
      on_found (Behind s) (Less s) (token (bytes "<q>") s) _ _ (token_leaves (bytes "<q>") s (omega arith))
      (λ r l. on_bind (Less r) (Less s) (query_within n r) _ (query_leaves n r)
      (λ q m. on_weaker _ (Less s) (closed_group q.0 q.1) (group_leaves q.0 q.1) (λ x k. omega arith)))
      (on_bind (Behind s) (Less s) (token (bytes "[[") s) _ (token_leaves (bytes "[[") s (omega arith))
      (λ r l. on_weaker _ (Less s) (body_within n r) (bracket_leaves n r) (λ x k. omega arith)))

  pub bracket_leaves : (n : ℕ) (s : Bytes) → OnSome (Less s) (body_within n s)
  bracket_leaves zero s = tt
  bracket_leaves (suc n) s =
      on_found _ (Less s) (head_length s) _ _ (head_leaves s)
      (λ k l. when_free s (all is_free (take k s)) _ (on_bind (NoMore (drop (2 + k) s)) (Less s) (alternatives_within n (drop (2 + k) s)) _ (alternatives_leave n (drop (2 + k) s))
      (λ a m. on_weaker _ (Less s) (closed_body (trim_names (split_dots (take k s))) a.0 a.1) (body_leaves (trim_names (split_dots (take k s))) a.0 a.1) (λ x j. omega (arith, drop_leaves k s l)))))
      (plain_leaves s)

  pub alternatives_leave : (n : ℕ) (s : Bytes) → OnSome (NoMore s) (alternatives_within n s)
  alternatives_leave zero s = tt
  alternatives_leave (suc n) s =
      on_bind (NoMore s) (NoMore s) (alternative_within n s) _ (alternative_leaves n s)
      (λ a l. on_weaker _ (NoMore s) (more_within n a.0 a.1) (more_leaves n a.0 a.1) (λ x m. omega arith))

  pub more_leaves : (n : ℕ) (a : RawAlternatives) (s : Bytes) → OnSome (NoMore s) (more_within n a s)
  more_leaves zero a s = tt
  more_leaves (suc n) a s =
      on_found _ (NoMore s) (after (bytes "||") s) _ _ (after_leaves (bytes "||") s)
      (λ r l. on_bind (NoMore r) (NoMore s) (alternative_within n r) _ (alternative_leaves n r)
      (λ b m. on_weaker _ (NoMore s) (more_within n (RawAlternatives.either a b.0) b.1) (more_leaves n (RawAlternatives.either a b.0) b.1) (λ x k. omega arith)))
      (omega arith)

  pub alternative_leaves : (n : ℕ) (s : Bytes) → OnSome (NoMore s) (alternative_within n s)
  alternative_leaves zero s = tt
  alternative_leaves (suc n) s =
      on_found (Behind s) (NoMore s) (token (bytes "<q>") s) _ _ (token_leaves (bytes "<q>") s (omega arith))
      (λ r l. on_bind (Less r) (NoMore s) (query_within n r) _ (query_leaves n r)
      (λ q m. on_weaker _ (NoMore s) (closed_inner q.0 q.1) (inner_leaves q.0 q.1) (λ x k. omega arith)))
      (piece_leaves s)
