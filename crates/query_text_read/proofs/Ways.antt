-- The ways through the readers that call each other: what each answers, from what its calls gave.
use Rattle.std.specs.Prelude.{Option, Some, None}
use Prim.Native.Nat.{ℕ, ◌+◌, ◌-◌}
use mathlib.Core.Path.{◌≡◌, refl, ap, sym, ◌∙◌}
use mathlib.Core.Bool.{Bool, true, false, not}
use native.Mathlib.Omega.{arith}
use borrow.Author.Tests.{not-true, not-false}
use lib.ListN.{length, take, drop}
use lib.Seq.{drop-drop}
use Rattle.text.specs.Bytes.{Bytes, bytes, is_blank, behind, after, all, part}
use Rattle.text.specs.Class.{is_free}
use Rattle.values.specs.Values.{map_option}
use Rattle.language.specs.Answer.{◌>>=◌, found}
use Rattle.language.specs.RawQuery.{RawQuery, RawAlternatives, token, next_term, head_length, piece_at, plain_body, closed_group, closed_inner, closed_body, read_query, read_or, read_conjunction, read_and, read_term, read_body, read_alternatives, read_more, read_alternative}
use Rattle.language.proofs.Readers.{query_eq, or_eq, conjunction_eq, and_eq, term_eq, body_eq, alternatives_eq, more_eq, alternative_eq}
use Rattle.query_text_pieces.specs.Places.{from, rest_of, head_at, head_of, inner_end, piece_of}
use Rattle.query_text_pieces.specs.declared.Placed.{Placed}
use Rattle.query_tree.specs.Nodes.{Node}
use Rattle.query_text_heads.specs.Effects.{Effect, one, ◌then◌, After, connective, ReadsPart, ReadsOn}
use Rattle.query_text_heads.specs.Trees.{deeper, effect, effect_in, chain_effect, property_body}
use Rattle.query_text_heads.specs.declared.Connective.{Connective}
use Rattle.query_text_heads.specs.declared.Seen.{Seen}
use Rattle.query_text_heads.proofs.Following.{after_then, joined, connective_plain}
use Rattle.query_text_heads.proofs.Readings.{reads_on, reads_no}
use Rattle.query_text_read.proofs.Falls.{head_after}
use Rattle.query_text_read.proofs.Trees.{effect_or, effect_and, effect_group, effect_either, effect_inner, effect_property}

-- Reading on behind what was read: f reads on, o reads what comes next, w finds where, behind a connective.
module _ {A : Type 0} (e : A → Effect) (f : A → Bytes → Option (A × Bytes)) (o : Bytes → Option (A × Bytes)) (w : Bytes → Option Bytes) (kind : Connective) where
  abbrev pub Joined : Type 0
  Joined = (s : Bytes) (at i next : ℕ) (t t₁ t₂ t₃ : Bytes) (n n₁ n₂ : Seen) (x : Option ℕ) (y r : Option (ℕ × Seen)) → rest_of s x ≡ w (from s at) → x ≡ Some i → ReadsPart s e t n (o (from s i)) y t₁ → y ≡ Some (next, n₁) → After t₁ n₁ (one (connective kind (n₁.place.count - n.place.count))) t₂ n₂ → ReadsOn s e t₂ n₂ f next r t₃ → ReadsOn s e t n f at r t₃

  abbrev pub Stopped : Type 0
  Stopped = (s : Bytes) (at i : ℕ) (t t₁ : Bytes) (n : Seen) (x : Option ℕ) (y : Option (ℕ × Seen)) → rest_of s x ≡ w (from s at) → x ≡ Some i → ReadsPart s e t n (o (from s i)) y t₁ → y ≡ None → ReadsOn s e t n f at None t₁

  abbrev pub Done : Type 0
  Done = (s : Bytes) (at : ℕ) (t : Bytes) (n : Seen) (x : Option ℕ) → rest_of s x ≡ w (from s at) → x ≡ None → ReadsOn s e t n f at (Some (at, n)) t

  module _ (j : A → A → A) (eq : (s : Bytes) (a : A) → f a s ≡ found (w s) (λ r. o r >>= λ b. f (j a b.0) b.1) (Some (a, s))) where
    on_joined : ((a b : A) → e (j a b) ≡ e a then e b then one (connective kind (length (e b).nodes))) → Joined
    unfolding rest_of ReadsPart ReadsOn
    on_joined both s at i next t t₁ t₂ t₃ n n₁ n₂ x y r p g h k c l a t₀ n₀ before =
        let b = rw k at h in
        let m = joined t₀ t t₁ t₂ n₀ n n₁ n₂ (e a) (e b.0) (connective kind) (connective_plain kind) before b.2 c in
        rw (eq (from s at) a, ← p, g, b.1) (l (j a b.0) t₀ n₀ (rw (both a b.0) m))

    on_stopped : Stopped
    unfolding rest_of ReadsPart ReadsOn
    on_stopped s at i t t₁ n x y p g h k a t₀ n₀ before =
        let b = rw k at h in
        (rw (eq (from s at) a, ← p, g, b.0), b.1 ∙ before.adds.long)

    on_done : Done
    unfolding rest_of ReadsPart ReadsOn
    on_done s at t n x p g a t₀ n₀ before = (a, rw (eq (from s at) a, ← p, g), before)

module _ (d : ℕ) where
  pub or_joined : Joined (effect d) read_or read_conjunction (token (bytes "OR")) Connective.Or
  or_joined = on_joined (effect d) read_or read_conjunction (token (bytes "OR")) Connective.Or RawQuery.disjunction or_eq (effect_or d)

  pub or_stopped : Stopped (effect d) read_or read_conjunction (token (bytes "OR")) Connective.Or
  or_stopped = on_stopped (effect d) read_or read_conjunction (token (bytes "OR")) Connective.Or RawQuery.disjunction or_eq

  pub or_done : Done (effect d) read_or read_conjunction (token (bytes "OR")) Connective.Or
  or_done = on_done (effect d) read_or read_conjunction (token (bytes "OR")) Connective.Or RawQuery.disjunction or_eq

  pub and_joined : Joined (effect d) read_and read_term next_term Connective.And
  and_joined = on_joined (effect d) read_and read_term next_term Connective.And RawQuery.conjunction and_eq (effect_and d)

  pub and_stopped : Stopped (effect d) read_and read_term next_term Connective.And
  and_stopped = on_stopped (effect d) read_and read_term next_term Connective.And RawQuery.conjunction and_eq

  pub and_done : Done (effect d) read_and read_term next_term Connective.And
  and_done = on_done (effect d) read_and read_term next_term Connective.And RawQuery.conjunction and_eq

  pub more_joined : Joined (effect_in d) read_more read_alternative (after (bytes "||")) Connective.Bar
  more_joined = on_joined (effect_in d) read_more read_alternative (after (bytes "||")) Connective.Bar RawAlternatives.either more_eq (effect_either d)

  pub more_stopped : Stopped (effect_in d) read_more read_alternative (after (bytes "||")) Connective.Bar
  more_stopped = on_stopped (effect_in d) read_more read_alternative (after (bytes "||")) Connective.Bar RawAlternatives.either more_eq

  pub more_done : Done (effect_in d) read_more read_alternative (after (bytes "||")) Connective.Bar
  more_done = on_done (effect_in d) read_more read_alternative (after (bytes "||")) Connective.Bar RawAlternatives.either more_eq

-- A reading and what comes behind it.
module _ (s : Bytes) (d at next : ℕ) (t t' t'' : Bytes) (n n' : Seen) (x r : Option (ℕ × Seen)) where
  pub query_got : ReadsPart s (effect d) t n (read_conjunction (from s at)) x t' → x ≡ Some (next, n') → ReadsOn s (effect d) t' n' read_or next r t'' → ReadsPart s (effect d) t n (read_query (from s at)) r t''
  query_got h g k = rw (query_eq (from s at)) (reads_on s (effect d) t t' n (read_conjunction (from s at)) read_or next n' x r t'' h g k)

  pub conjunction_got : ReadsPart s (effect d) t n (read_term (from s at)) x t' → x ≡ Some (next, n') → ReadsOn s (effect d) t' n' read_and next r t'' → ReadsPart s (effect d) t n (read_conjunction (from s at)) r t''
  conjunction_got h g k = rw (conjunction_eq (from s at)) (reads_on s (effect d) t t' n (read_term (from s at)) read_and next n' x r t'' h g k)

  pub alternatives_got : ReadsPart s (effect_in d) t n (read_alternative (from s at)) x t' → x ≡ Some (next, n') → ReadsOn s (effect_in d) t' n' read_more next r t'' → ReadsPart s (effect_in d) t n (read_alternatives (from s at)) r t''
  alternatives_got h g k = rw (alternatives_eq (from s at)) (reads_on s (effect_in d) t t' n (read_alternative (from s at)) read_more next n' x r t'' h g k)

module _ (s : Bytes) (d at : ℕ) (t t' : Bytes) (n : Seen) (x : Option (ℕ × Seen)) (g : x ≡ None) where
  pub query_not : ReadsPart s (effect d) t n (read_conjunction (from s at)) x t' → ReadsPart s (effect d) t n (read_query (from s at)) None t'
  query_not h = rw (query_eq (from s at)) (reads_no s (effect d) t t' n (read_conjunction (from s at)) (effect d) _ x h g)

  pub conjunction_not : ReadsPart s (effect d) t n (read_term (from s at)) x t' → ReadsPart s (effect d) t n (read_conjunction (from s at)) None t'
  conjunction_not h = rw (conjunction_eq (from s at)) (reads_no s (effect d) t t' n (read_term (from s at)) (effect d) _ x h g)

  pub alternatives_not : ReadsPart s (effect_in d) t n (read_alternative (from s at)) x t' → ReadsPart s (effect_in d) t n (read_alternatives (from s at)) None t'
  alternatives_not h = rw (alternatives_eq (from s at)) (reads_no s (effect_in d) t t' n (read_alternative (from s at)) (effect_in d) _ x h g)

-- A group, or a bracket.
module _ (s : Bytes) (d at i : ℕ) (t t' : Bytes) (n : Seen) (a : Option ℕ) (p : rest_of s a ≡ token (bytes "<q>") (from s at)) where
  module _ (g : a ≡ Some i) (k : ℕ) (e : k ≡ deeper d) (y : Option (ℕ × Seen)) (h : ReadsPart s (effect k) t n (read_query (from s i)) y t') where
    module _ (next : ℕ) (n' : Seen) (l : y ≡ Some (next, n')) (b : Option ℕ) (q : rest_of s b ≡ token (bytes "</q>") (from s next)) where
      pub term_group : (end : ℕ) → b ≡ Some end → ReadsPart s (effect d) t n (read_term (from s at)) (Some (end, n')) t'
      unfolding rest_of ReadsPart closed_group
      term_group end f =
          let z = rw l at h in
          (RawQuery.group z.0, closes z.0 z.1, rw (effect_group d z.0, ← e) z.2)
        where
          closes : (x : RawQuery) → read_query (from s i) ≡ Some (x, from s next) → read_term (from s at) ≡ Some (RawQuery.group x, from s end)
          closes x m = rw (term_eq (from s at), ← p, g, m, ← q, f)

      pub term_open : b ≡ None → ReadsPart s (effect d) t n (read_term (from s at)) None t'
      unfolding rest_of ReadsPart closed_group
      term_open f =
          let z = rw l at h in
          (rw (term_eq (from s at), ← p, g, z.1, ← q, f), z.2.adds.long)

    pub term_not : y ≡ None → ReadsPart s (effect d) t n (read_term (from s at)) None t'
    unfolding rest_of ReadsPart
    term_not l =
        let z = rw l at h in
        (rw (term_eq (from s at), ← p, g, z.0), z.1)

module _ (s : Bytes) (d at : ℕ) (t : Bytes) (n : Seen) (a b : Option ℕ) (p : rest_of s a ≡ token (bytes "<q>") (from s at)) (g : a ≡ None) (q : rest_of s b ≡ token (bytes "[[") (from s at)) where
  pub term_bracket : (i : ℕ) (t' : Bytes) (r : Option (ℕ × Seen)) → b ≡ Some i → ReadsPart s (effect d) t n (read_body (from s i)) r t' → ReadsPart s (effect d) t n (read_term (from s at)) r t'
  unfolding rest_of
  term_bracket i t' r f h = rw (term_eq (from s at), ← p, g, ← q, f) h

  pub term_none : b ≡ None → ReadsPart s (effect d) t n (read_term (from s at)) None t
  unfolding rest_of ReadsPart
  term_none f = (rw (term_eq (from s at), ← p, g, ← q, f), refl)

-- A bracket with `::`, or without.
head_some : (at e : ℕ) (o : Option ℕ) → Some e ≡ map_option (λ k. at + k) o → o ≡ Some (e - at)
head_some at e None h = cc
head_some at e (Some k) h = let l : e ≡ at + k = cc in ap Some (omega arith)

head_no : (at : ℕ) (o : Option ℕ) → None ≡ map_option (λ k. at + k) o → o ≡ None
head_no at None h = refl
head_no at (Some k) h = cc

pub bracket_plain : (s : Bytes) (d at : ℕ) (t t' : Bytes) (n : Seen) (a : Option ℕ) (r : Option (ℕ × Seen)) → a ≡ head_at s at → a ≡ None → ReadsPart s (effect d) t n (plain_body (from s at)) r t' → ReadsPart s (effect d) t n (read_body (from s at)) r t'
unfolding head_at
bracket_plain s d at t t' n a r p g h = rw (body_eq (from s at), head_no at (head_length (from s at)) (rw g at p)) h

-- The head, the alternatives and the `]]` of a bracket whose `::` stands at i.
module _ (s h : Bytes) (d at i : ℕ) (t : Bytes) (n : Seen) (a : Option ℕ) (b : Bool) (p : a ≡ head_at s at) (o : a ≡ Some i) (e : h ≡ part s at (i - at)) (f : b ≡ all is_free h) where
  body : read_body (from s at) ≡ property_body (from s at) (i - at)
  unfolding head_at property_body
  body = rw (body_eq (from s at), head_some at i (head_length (from s at)) (rw o at p))

  behind_head : drop (2 + (i - at)) (from s at) ≡ from s (i + 2)
  unfolding from
  behind_head =
      let k : at + (2 + (i - at)) ≡ i + 2 = omega (arith, head_after s at i a p o) in
      drop-drop (2 + (i - at)) at s ∙ ap (λ k. drop k s) k

  free : {c : Bool} → b ≡ c → all is_free (take (i - at) (from s at)) ≡ c
  unfolding from
  free g = rw (← e) (sym f ∙ g)

  pub bracket_unfree : not b ≡ true → ReadsPart s (effect d) t n (read_body (from s at)) None t
  unfolding ReadsPart property_body
  bracket_unfree g = (rw (body, free (not-true b g)), refl)

  module _ (g : not b ≡ false) (t' : Bytes) (y : Option (ℕ × Seen)) (r : ReadsPart s (effect_in d) t n (read_alternatives (from s (i + 2))) y t') where
    pub bracket_not : y ≡ None → ReadsPart s (effect d) t n (read_body (from s at)) None t'
    unfolding ReadsPart property_body
    bracket_not l =
        let z = rw l at r in
        (rw (body, free (not-false b g), behind_head, z.0), z.1)

    module _ (next : ℕ) (n' : Seen) (l : y ≡ Some (next, n')) (c : Option ℕ) (q : rest_of s c ≡ after (bytes "]]") (from s next)) where
      pub bracket_open : c ≡ None → ReadsPart s (effect d) t n (read_body (from s at)) None t'
      unfolding ReadsPart property_body closed_body rest_of
      bracket_open m =
          let z = rw l at r in
          (rw (body, free (not-false b g), behind_head, z.1, ← q, m), z.2.adds.long)

      closed : (end : ℕ) (w : RawAlternatives) → c ≡ Some end → read_alternatives (from s (i + 2)) ≡ Some (w, from s next) → read_body (from s at) ≡ Some (RawQuery.property (head_of s at (i - at)) w, from s end)
      unfolding property_body closed_body rest_of head_of from
      closed end w m k = rw (body, free (not-false b g), behind_head, k, ← q, m)

      pub bracket_got : (end : ℕ) (t'' : Bytes) (n'' : Seen) → c ≡ Some end → After t' n' (chain_effect 0 (head_of s at (i - at))) t'' n'' → ReadsPart s (effect d) t n (read_body (from s at)) (Some (end, n'')) t''
      unfolding ReadsPart
      bracket_got end t'' n'' m v =
          let z = rw l at r in
          (RawQuery.property (head_of s at (i - at)) z.0, closed end z.0 m z.1, rw (effect_property d (head_of s at (i - at)) z.0) (after_then t t' t'' n n' n'' _ _ z.2 v))

-- A subquery, or a piece.
inner_is : (q : RawQuery) (s : Bytes) → closed_inner q s ≡ (inner_end s >>= λ r. Some (RawAlternatives.subquery q, r))
unfolding closed_inner inner_end
inner_is q s = go (token (bytes "</q>") s)
  where
    go : (o : Option Bytes) → ◌>>=◌ {B = RawAlternatives × Bytes} o (λ r. Some (RawAlternatives.subquery q, behind is_blank r)) ≡ ((o >>= λ r. Some (behind is_blank r)) >>= λ r. Some (RawAlternatives.subquery q, r))
    go None = refl
    go (Some r) = refl

module _ (s : Bytes) (d at : ℕ) (t t' : Bytes) (n : Seen) (a : Option ℕ) (p : rest_of s a ≡ token (bytes "<q>") (from s at)) where
  module _ (i : ℕ) (g : a ≡ Some i) (k : ℕ) (e : k ≡ deeper d) (y : Option (ℕ × Seen)) (h : ReadsPart s (effect k) t n (read_query (from s i)) y t') where
    module _ (next : ℕ) (n' : Seen) (l : y ≡ Some (next, n')) (b : Option ℕ) (q : rest_of s b ≡ inner_end (from s next)) where
      pub alternative_group : (end : ℕ) (t'' : Bytes) (n'' : Seen) → b ≡ Some end → After t' n' (one Node.subquery) t'' n'' → ReadsPart s (effect_in d) t n (read_alternative (from s at)) (Some (end, n'')) t''
      unfolding rest_of ReadsPart
      alternative_group end t'' n'' f w =
          let z = rw l at h in
          (RawAlternatives.subquery z.0, closes z.0 z.1, rw (effect_inner d z.0, ← e) (after_then t t' t'' n n' n'' _ _ z.2 w))
        where
          closes : (x : RawQuery) → read_query (from s i) ≡ Some (x, from s next) → read_alternative (from s at) ≡ Some (RawAlternatives.subquery x, from s end)
          closes x m = rw (alternative_eq (from s at), ← p, g, m, inner_is, ← q, f)

      pub alternative_open : b ≡ None → ReadsPart s (effect_in d) t n (read_alternative (from s at)) None t'
      unfolding rest_of ReadsPart
      alternative_open f =
          let z = rw l at h in
          (rw (alternative_eq (from s at), ← p, g, z.1, inner_is, ← q, f), z.2.adds.long)

    pub alternative_not : y ≡ None → ReadsPart s (effect_in d) t n (read_alternative (from s at)) None t'
    unfolding rest_of ReadsPart
    alternative_not l =
        let z = rw l at h in
        (rw (alternative_eq (from s at), ← p, g, z.0), z.1)

  pub alternative_piece : (c : Placed) (next : ℕ) (n' : Seen) → a ≡ None → piece_at (from s at) ≡ (piece_of s c, from s next) → After t n (effect_in d (RawAlternatives.piece (piece_of s c))) t' n' → ReadsPart s (effect_in d) t n (read_alternative (from s at)) (Some (next, n')) t'
  unfolding rest_of ReadsPart
  alternative_piece c next n' g k h = (RawAlternatives.piece (piece_of s c), rw (alternative_eq (from s at), ← p, g, k), h)

pub ruleset cycle = (or_joined, or_stopped, or_done, and_joined, and_stopped, and_done, more_joined, more_stopped, more_done, query_got, conjunction_got, alternatives_got, query_not, conjunction_not, alternatives_not, term_group, term_open, term_not, term_bracket, term_none, bracket_plain, bracket_unfree, bracket_not, bracket_open, alternative_open, alternative_not, alternative_piece)
