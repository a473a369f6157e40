-- The readers of the query text without their bounds: with enough, more changes nothing, and each reader has the equation
-- that its definition writes.
use Rattle.std.specs.Prelude.{Some}
use Prim.Native.Nat.{ℕ, zero, suc, ◌+◌, ◌*◌, ◌<◌}
use mathlib.Core.Path.{◌≡◌, ap, ◌∙◌}
use mathlib.Core.List.{[], ◌∷◌}
use native.Mathlib.Omega.{arith}
use native.Mathlib.Nat.{add-suc}
use lib.ListN.{length, take, drop}
use Rattle.text.specs.Bytes.{Bytes, bytes, all, after}
use Rattle.text.specs.Class.{is_free}
use Rattle.language.specs.Answer.{◌>>=◌, found, only_if}
use Rattle.language.specs.RawQuery.{RawQuery, RawAlternatives, token, piece_at, head_length, split_dots, trim_names, pieces_within, read_pieces, plain_body, closed_inner, closed_group, closed_body, next_term, query_within, or_within, conjunction_within, and_within, term_within, body_within, alternatives_within, more_within, alternative_within, read_query, read_or, read_conjunction, read_and, read_term, read_body, read_alternatives, read_more, read_alternative}
use Rattle.language.proofs.Options.{OnSome, same_bind, same_found, settled}
use Rattle.language.proofs.Leaving.{Behind, token_leaves, piece_leaves, head_leaves, drop_leaves, next_leaves, query_leaves, conjunction_leaves, term_leaves, alternative_leaves}
use Rattle.language.proofs.Shorter.{Less, NoMore, after_leaves}

pieces_step : (n : ℕ) (s : Bytes) → length s < n → pieces_within (suc n) s ≡ pieces_within n s
unfolding pieces_within
pieces_step zero s h = absurd (omega arith)
pieces_step (suc n) s h =
    same_found _ (after (bytes "||") (piece_at s).1) _ _ _ (after_leaves (bytes "||") (piece_at s).1)
    (λ r l. ap (λ o. o >>= λ x. Some ((piece_at s).0 ∷ x.0, x.1)) (pieces_step n r (let k = piece_leaves s in omega arith)))

mutual
  unfolding query_within

  -- one more changes nothing
  query_step : (n : ℕ) (s : Bytes) → 4 * length s + 3 < n → query_within (suc n) s ≡ query_within n s
  query_step zero s h = absurd (omega arith)
  query_step (suc n) s h =
      ap (λ o. o >>= λ q. or_within (suc n) q.0 q.1) (conjunction_step n s (omega arith))
      ∙ same_bind (Less s) (conjunction_within n s) _ _ (conjunction_leaves n s) (λ q l. or_step n q.0 q.1 (omega arith))

  or_step : (n : ℕ) (a : RawQuery) (s : Bytes) → 4 * length s < n → or_within (suc n) a s ≡ or_within n a s
  or_step zero a s h = absurd (omega arith)
  or_step (suc n) a s h =
      same_found (Behind s) (token (bytes "OR") s) _ _ _ (token_leaves (bytes "OR") s (omega arith))
      (λ r l. ap (λ o. o >>= λ b. or_within (suc n) (RawQuery.disjunction a b.0) b.1) (conjunction_step n r (omega arith))
      ∙ same_bind (Less r) (conjunction_within n r) _ _ (conjunction_leaves n r) (λ b m. or_step n (RawQuery.disjunction a b.0) b.1 (omega arith)))

  conjunction_step : (n : ℕ) (s : Bytes) → 4 * length s + 2 < n → conjunction_within (suc n) s ≡ conjunction_within n s
  conjunction_step zero s h = absurd (omega arith)
  conjunction_step (suc n) s h =
      ap (λ o. o >>= λ q. and_within (suc n) q.0 q.1) (term_step n s (omega arith))
      ∙ same_bind (Less s) (term_within n s) _ _ (term_leaves n s) (λ q l. and_step n q.0 q.1 (omega arith))

  and_step : (n : ℕ) (a : RawQuery) (s : Bytes) → 4 * length s + 1 < n → and_within (suc n) a s ≡ and_within n a s
  and_step zero a s h = absurd (omega arith)
  and_step (suc n) a s h =
      same_found _ (next_term s) _ _ _ (next_leaves s)
      (λ r l. ap (λ o. o >>= λ b. and_within (suc n) (RawQuery.conjunction a b.0) b.1) (term_step n r (omega arith))
      ∙ same_bind (Less r) (term_within n r) _ _ (term_leaves n r) (λ b m. and_step n (RawQuery.conjunction a b.0) b.1 (omega arith)))

  term_step : (n : ℕ) (s : Bytes) → 4 * length s < n → term_within (suc n) s ≡ term_within n s
  term_step zero s h = absurd (omega arith)
  term_step (suc n) s h =
      same_found (Behind s) (token (bytes "<q>") s) _ _ _ (token_leaves (bytes "<q>") s (omega arith))
      (λ r l. ap (λ o. o >>= λ q. closed_group q.0 q.1) (query_step n r (omega arith)))
      ∙ ap (λ o. found (token (bytes "<q>") s) (λ r. query_within n r >>= λ q. closed_group q.0 q.1) o)
      (same_bind (Behind s) (token (bytes "[[") s) _ _ (token_leaves (bytes "[[") s (omega arith)) (λ r l. body_step n r (omega arith)))

  body_step : (n : ℕ) (s : Bytes) → 4 * length s < n → body_within (suc n) s ≡ body_within n s
  body_step zero s h = absurd (omega arith)
  body_step (suc n) s h =
      same_found _ (head_length s) _ _ _ (head_leaves s)
      (λ k l. ap (λ o. only_if (all is_free (take k s)) (o >>= λ a. closed_body (trim_names (split_dots (take k s))) a.0 a.1))
      (alternatives_step n (drop (2 + k) s) (omega (arith, drop_leaves k s l))))

  alternatives_step : (n : ℕ) (s : Bytes) → 4 * length s + 1 < n → alternatives_within (suc n) s ≡ alternatives_within n s
  alternatives_step zero s h = absurd (omega arith)
  alternatives_step (suc n) s h =
      ap (λ o. o >>= λ a. more_within (suc n) a.0 a.1) (alternative_step n s (omega arith))
      ∙ same_bind (NoMore s) (alternative_within n s) _ _ (alternative_leaves n s) (λ a l. more_step n a.0 a.1 (omega arith))

  more_step : (n : ℕ) (a : RawAlternatives) (s : Bytes) → 4 * length s < n → more_within (suc n) a s ≡ more_within n a s
  more_step zero a s h = absurd (omega arith)
  more_step (suc n) a s h =
      same_found _ (after (bytes "||") s) _ _ _ (after_leaves (bytes "||") s)
      (λ r l. ap (λ o. o >>= λ b. more_within (suc n) (RawAlternatives.either a b.0) b.1) (alternative_step n r (omega arith))
      ∙ same_bind (NoMore r) (alternative_within n r) _ _ (alternative_leaves n r) (λ b m. more_step n (RawAlternatives.either a b.0) b.1 (omega arith)))

  alternative_step : (n : ℕ) (s : Bytes) → 4 * length s < n → alternative_within (suc n) s ≡ alternative_within n s
  alternative_step zero s h = absurd (omega arith)
  alternative_step (suc n) s h =
      same_found (Behind s) (token (bytes "<q>") s) _ _ _ (token_leaves (bytes "<q>") s (omega arith))
      (λ r l. ap (λ o. o >>= λ q. closed_inner q.0 q.1) (query_step n r (omega arith)))

-- a reader at any bound that is large enough is the reader that is published
module _ (n : ℕ) (s : Bytes) where
  query_settled : 4 * length s + 3 < n → query_within n s ≡ read_query s
  unfolding read_query
  query_settled h = settled (λ m. query_within m s) _ (λ m. query_step m s) n _ h (omega arith)

  or_settled : (a : RawQuery) → 4 * length s < n → or_within n a s ≡ read_or a s
  unfolding read_or
  or_settled a h = settled (λ m. or_within m a s) _ (λ m. or_step m a s) n _ h (omega arith)

  conjunction_settled : 4 * length s + 2 < n → conjunction_within n s ≡ read_conjunction s
  unfolding read_conjunction
  conjunction_settled h = settled (λ m. conjunction_within m s) _ (λ m. conjunction_step m s) n _ h (omega arith)

  and_settled : (a : RawQuery) → 4 * length s + 1 < n → and_within n a s ≡ read_and a s
  unfolding read_and
  and_settled a h = settled (λ m. and_within m a s) _ (λ m. and_step m a s) n _ h (omega arith)

  term_settled : 4 * length s < n → term_within n s ≡ read_term s
  unfolding read_term
  term_settled h = settled (λ m. term_within m s) _ (λ m. term_step m s) n _ h (omega arith)

  body_settled : 4 * length s < n → body_within n s ≡ read_body s
  unfolding read_body
  body_settled h = settled (λ m. body_within m s) _ (λ m. body_step m s) n _ h (omega arith)

  alternatives_settled : 4 * length s + 1 < n → alternatives_within n s ≡ read_alternatives s
  unfolding read_alternatives
  alternatives_settled h = settled (λ m. alternatives_within m s) _ (λ m. alternatives_step m s) n _ h (omega arith)

  more_settled : (a : RawAlternatives) → 4 * length s < n → more_within n a s ≡ read_more a s
  unfolding read_more
  more_settled a h = settled (λ m. more_within m a s) _ (λ m. more_step m a s) n _ h (omega arith)

  alternative_settled : 4 * length s < n → alternative_within n s ≡ read_alternative s
  unfolding read_alternative
  alternative_settled h = settled (λ m. alternative_within m s) _ (λ m. alternative_step m s) n _ h (omega arith)

  pieces_settled : length s < n → pieces_within n s ≡ read_pieces s
  unfolding read_pieces
  pieces_settled h = settled (λ m. pieces_within m s) _ (λ m. pieces_step m s) n _ h (omega arith)

-- the equations
module _ (s : Bytes) where
  -- a reader at a bound of 4 * length s + suc k, one call down
  one_down : {A : Type 0} (f : ℕ → A) (k : ℕ) → f (4 * length s + suc k) ≡ f (suc (4 * length s + k))
  one_down f k = ap f (add-suc (4 * length s) k)

  pub query_eq : read_query s ≡ (read_conjunction s >>= λ q. read_or q.0 q.1)
  unfolding read_query query_within
  query_eq =
      one_down (λ m. query_within m s) 3
      ∙ same_bind (Less s) (conjunction_within (4 * length s + 3) s) _ _ (conjunction_leaves (4 * length s + 3) s) (λ q l. or_settled (4 * length s + 3) q.1 q.0 (omega arith))
      ∙ ap (λ o. o >>= λ q. read_or q.0 q.1) (conjunction_settled (4 * length s + 3) s (omega arith))

  pub or_eq : (a : RawQuery) → read_or a s ≡ found (token (bytes "OR") s) (λ r. read_conjunction r >>= λ b. read_or (RawQuery.disjunction a b.0) b.1) (Some (a, s))
  unfolding read_or query_within
  or_eq a =
      one_down (λ m. or_within m a s) 0
      ∙ same_found (Behind s) (token (bytes "OR") s) _ _ _ (token_leaves (bytes "OR") s (omega arith))
      (λ r l. same_bind (Less r) (conjunction_within (4 * length s + 0) r) _ _ (conjunction_leaves (4 * length s + 0) r) (λ b m. or_settled (4 * length s + 0) b.1 (RawQuery.disjunction a b.0) (omega arith))
      ∙ ap (λ o. o >>= λ b. read_or (RawQuery.disjunction a b.0) b.1) (conjunction_settled (4 * length s + 0) r (omega arith)))

  pub conjunction_eq : read_conjunction s ≡ (read_term s >>= λ q. read_and q.0 q.1)
  unfolding read_conjunction query_within
  conjunction_eq =
      one_down (λ m. conjunction_within m s) 2
      ∙ same_bind (Less s) (term_within (4 * length s + 2) s) _ _ (term_leaves (4 * length s + 2) s) (λ q l. and_settled (4 * length s + 2) q.1 q.0 (omega arith))
      ∙ ap (λ o. o >>= λ q. read_and q.0 q.1) (term_settled (4 * length s + 2) s (omega arith))

  pub and_eq : (a : RawQuery) → read_and a s ≡ found (next_term s) (λ r. read_term r >>= λ b. read_and (RawQuery.conjunction a b.0) b.1) (Some (a, s))
  unfolding read_and query_within
  and_eq a =
      one_down (λ m. and_within m a s) 1
      ∙ same_found _ (next_term s) _ _ _ (next_leaves s)
      (λ r l. same_bind (Less r) (term_within (4 * length s + 1) r) _ _ (term_leaves (4 * length s + 1) r) (λ b m. and_settled (4 * length s + 1) b.1 (RawQuery.conjunction a b.0) (omega arith))
      ∙ ap (λ o. o >>= λ b. read_and (RawQuery.conjunction a b.0) b.1) (term_settled (4 * length s + 1) r (omega arith)))

  pub term_eq : read_term s ≡ found (token (bytes "<q>") s) (λ r. read_query r >>= λ q. closed_group q.0 q.1) (token (bytes "[[") s >>= read_body)
  unfolding read_term query_within
  term_eq =
      one_down (λ m. term_within m s) 0
      ∙ same_found (Behind s) (token (bytes "<q>") s) _ _ _ (token_leaves (bytes "<q>") s (omega arith))
      (λ r l. ap (λ o. o >>= λ q. closed_group q.0 q.1) (query_settled (4 * length s + 0) r (omega arith)))
      ∙ ap (found (token (bytes "<q>") s) (λ r. read_query r >>= λ q. closed_group q.0 q.1))
      (same_bind (Behind s) (token (bytes "[[") s) _ _ (token_leaves (bytes "[[") s (omega arith)) (λ r l. body_settled (4 * length s + 0) r (omega arith)))

  pub body_eq : read_body s ≡ found (head_length s) (λ k. only_if (all is_free (take k s)) (read_alternatives (drop (2 + k) s) >>= λ a. closed_body (trim_names (split_dots (take k s))) a.0 a.1)) (plain_body s)
  unfolding read_body query_within
  body_eq =
      one_down (λ m. body_within m s) 0
      ∙ same_found _ (head_length s) _ _ _ (head_leaves s)
      (λ k l. ap (λ o. only_if (all is_free (take k s)) (o >>= λ a. closed_body (trim_names (split_dots (take k s))) a.0 a.1))
      (alternatives_settled (4 * length s + 0) (drop (2 + k) s) (omega (arith, drop_leaves k s l))))

  pub alternatives_eq : read_alternatives s ≡ (read_alternative s >>= λ a. read_more a.0 a.1)
  unfolding read_alternatives query_within
  alternatives_eq =
      one_down (λ m. alternatives_within m s) 1
      ∙ same_bind (NoMore s) (alternative_within (4 * length s + 1) s) _ _ (alternative_leaves (4 * length s + 1) s) (λ a l. more_settled (4 * length s + 1) a.1 a.0 (omega arith))
      ∙ ap (λ o. o >>= λ a. read_more a.0 a.1) (alternative_settled (4 * length s + 1) s (omega arith))

  pub more_eq : (a : RawAlternatives) → read_more a s ≡ found (after (bytes "||") s) (λ r. read_alternative r >>= λ b. read_more (RawAlternatives.either a b.0) b.1) (Some (a, s))
  unfolding read_more query_within
  more_eq a =
      one_down (λ m. more_within m a s) 0
      ∙ same_found _ (after (bytes "||") s) _ _ _ (after_leaves (bytes "||") s)
      (λ r l. same_bind (NoMore r) (alternative_within (4 * length s + 0) r) _ _ (alternative_leaves (4 * length s + 0) r) (λ b m. more_settled (4 * length s + 0) b.1 (RawAlternatives.either a b.0) (omega arith))
      ∙ ap (λ o. o >>= λ b. read_more (RawAlternatives.either a b.0) b.1) (alternative_settled (4 * length s + 0) r (omega arith)))

  pub alternative_eq : read_alternative s ≡ found (token (bytes "<q>") s) (λ r. read_query r >>= λ q. closed_inner q.0 q.1) (Some (RawAlternatives.piece (piece_at s).0, (piece_at s).1))
  unfolding read_alternative query_within
  alternative_eq =
      one_down (λ m. alternative_within m s) 0
      ∙ same_found (Behind s) (token (bytes "<q>") s) _ _ _ (token_leaves (bytes "<q>") s (omega arith))
      (λ r l. ap (λ o. o >>= λ q. closed_inner q.0 q.1) (query_settled (4 * length s + 0) r (omega arith)))

  pub pieces_eq : read_pieces s ≡ found (after (bytes "||") (piece_at s).1) (λ r. read_pieces r >>= λ l. Some ((piece_at s).0 ∷ l.0, l.1)) (after (bytes "]]") (piece_at s).1 >>= λ r. Some ((piece_at s).0 ∷ [], r))
  unfolding read_pieces pieces_within
  pieces_eq =
      same_found _ (after (bytes "||") (piece_at s).1) _ _ _ (after_leaves (bytes "||") (piece_at s).1)
      (λ r l. ap (λ o. o >>= λ x. Some ((piece_at s).0 ∷ x.0, x.1)) (pieces_settled (length s) r (let k = piece_leaves s in omega arith)))

-- what each reader leaves of its text
module _ (s : Bytes) where
  pub query_less : OnSome (Less s) (read_query s)
  unfolding read_query
  query_less = query_leaves _ s

  pub conjunction_less : OnSome (Less s) (read_conjunction s)
  unfolding read_conjunction
  conjunction_less = conjunction_leaves _ s

  pub term_less : OnSome (Less s) (read_term s)
  unfolding read_term
  term_less = term_leaves _ s

  pub alternative_no_more : OnSome (NoMore s) (read_alternative s)
  unfolding read_alternative
  alternative_no_more = alternative_leaves _ s
