-- Each call of the readers has less text left, or stands lower in the grammar.
use Rattle.std.specs.Prelude.{Option, Some, None}
use Prim.Native.Nat.{ℕ, ◌+◌, ◌*◌, ◌≤◌, ◌<◌}
use mathlib.Core.Path.{◌≡◌}
use mathlib.Core.List.{◌∷◌}
use native.Mathlib.Omega.{arith}
use lib.ListN.{length, drop, length-drop}
use Rattle.text.specs.Bytes.{Bytes, after}
use Rattle.values.specs.Values.{map_option}
use Rattle.language.specs.RawQuery.{RawQuery, RawAlternatives, token, next_term, head_length, read_conjunction, read_term, read_alternative}
use Rattle.language.proofs.Options.{OnSome}
use Rattle.language.proofs.Shorter.{Less, NoMore, after_leaves}
use Rattle.language.proofs.Leaving.{Behind, token_leaves, next_leaves, head_leaves}
use Rattle.language.proofs.Readers.{conjunction_less, term_less, alternative_no_more}
use Rattle.query_text_pieces.specs.Places.{from, rest_of, head_at}
use Rattle.query_text_heads.specs.Effects.{Effect, ReadsPart}
use Rattle.query_text_heads.specs.declared.Seen.{Seen}

-- What holds of what was found, or read.
found_on : (P : Bytes → Type 0) (s : Bytes) (o : Option Bytes) (i : ℕ) (a : Option ℕ) → OnSome P o → rest_of s a ≡ o → a ≡ Some i → P (from s i)
unfolding rest_of
found_on P s o i a h p g = let k : OnSome P (rest_of s a) = rw p h in rw g at k

got_on : {A : Type 0} (P : A × Bytes → Type 0) (s : Bytes) (e : A → Effect) (t t' : Bytes) (n n' : Seen) (o : Option (A × Bytes)) (next : ℕ) (x : Option (ℕ × Seen)) → OnSome P o → ReadsPart s e t n o x t' → x ≡ Some (next, n') → (a : A) × P (a, from s next)
unfolding ReadsPart
got_on P s e t t' n n' o next x k h g =
    let z = rw g at h in
    (z.0, rw z.1 at k)

module _ (s : Bytes) (at i k : ℕ) (a : Option ℕ) where
  module _ (b : ℕ) (w : Bytes) (p : rest_of s a ≡ token (b ∷ w) (from s at)) (g : a ≡ Some i) where
    less : length (from s i) < length (from s at)
    less = found_on (Behind (from s at)) s _ i a (token_leaves (b ∷ w) (from s at) (omega arith)) p g

    pub fall_token_3 : 4 * length (from s at) ≡ k → 4 * length (from s i) + 3 < k
    fall_token_3 e = let l = less in omega arith

    pub fall_token_2 : 4 * length (from s at) ≡ k → 4 * length (from s i) + 2 < k
    fall_token_2 e = let l = less in omega arith

    pub fall_token_1 : 4 * length (from s at) ≡ k → 4 * length (from s i) + 1 < k
    fall_token_1 e = let l = less in omega arith

    pub fall_or : (d : RawQuery → Effect) (t t' : Bytes) (n n' : Seen) (next : ℕ) (x : Option (ℕ × Seen)) → ReadsPart s d t n (read_conjunction (from s i)) x t' → x ≡ Some (next, n') → 4 * length (from s at) ≡ k → 4 * length (from s next) < k
    fall_or d t t' n n' next x h y e =
        let l = less in
        let m = got_on (Less (from s i)) s d t t' n n' _ next x (conjunction_less (from s i)) h y in
        omega arith

  module _ (p : rest_of s a ≡ next_term (from s at)) (g : a ≡ Some i) where
    no_more : length (from s i) ≤ length (from s at)
    no_more = found_on (λ r. length r ≤ length (from s at)) s _ i a (next_leaves (from s at)) p g

    pub fall_next : 4 * length (from s at) + 1 ≡ k → 4 * length (from s i) < k
    fall_next e = let l = no_more in omega arith

    pub fall_and : (d : RawQuery → Effect) (t t' : Bytes) (n n' : Seen) (next : ℕ) (x : Option (ℕ × Seen)) → ReadsPart s d t n (read_term (from s i)) x t' → x ≡ Some (next, n') → 4 * length (from s at) + 1 ≡ k → 4 * length (from s next) + 1 < k
    fall_and d t t' n n' next x h y e =
        let l = no_more in
        let m = got_on (Less (from s i)) s d t t' n n' _ next x (term_less (from s i)) h y in
        omega arith

  module _ (b : ℕ) (w : Bytes) (p : rest_of s a ≡ after (b ∷ w) (from s at)) (g : a ≡ Some i) where
    behind : length (from s i) < length (from s at)
    behind = let l = found_on (λ r. length r + length (b ∷ w) ≤ length (from s at)) s _ i a (after_leaves (b ∷ w) (from s at)) p g in omega arith

    pub fall_after : 4 * length (from s at) ≡ k → 4 * length (from s i) < k
    fall_after e = let l = behind in omega arith

    pub fall_more : (d : RawAlternatives → Effect) (t t' : Bytes) (n n' : Seen) (next : ℕ) (x : Option (ℕ × Seen)) → ReadsPart s d t n (read_alternative (from s i)) x t' → x ≡ Some (next, n') → 4 * length (from s at) ≡ k → 4 * length (from s next) < k
    fall_more d t t' n n' next x h y e =
        let l = behind in
        let m = got_on (NoMore (from s i)) s d t t' n n' _ next x (alternative_no_more (from s i)) h y in
        omega arith

module _ (s : Bytes) (at k next : ℕ) (t t' : Bytes) (n n' : Seen) (x : Option (ℕ × Seen)) (y : x ≡ Some (next, n')) where
  pub fall_query : (d : RawQuery → Effect) → ReadsPart s d t n (read_conjunction (from s at)) x t' → 4 * length (from s at) + 3 ≡ k → 4 * length (from s next) < k
  fall_query d h e = let m = got_on (Less (from s at)) s d t t' n n' _ next x (conjunction_less (from s at)) h y in omega arith

  pub fall_conjunction : (d : RawQuery → Effect) → ReadsPart s d t n (read_term (from s at)) x t' → 4 * length (from s at) + 2 ≡ k → 4 * length (from s next) + 1 < k
  fall_conjunction d h e = let m = got_on (Less (from s at)) s d t t' n n' _ next x (term_less (from s at)) h y in omega arith

  pub fall_alternatives : (d : RawAlternatives → Effect) → ReadsPart s d t n (read_alternative (from s at)) x t' → 4 * length (from s at) + 1 ≡ k → 4 * length (from s next) < k
  fall_alternatives d h e = let m = got_on (NoMore (from s at)) s d t t' n n' _ next x (alternative_no_more (from s at)) h y in omega arith

-- The head of a bracket lies within the text, with its `::`.
head_within : (s : Bytes) (at e : ℕ) (a : Option ℕ) → a ≡ head_at s at → a ≡ Some e → (at ≤ e) × (e + 2 ≤ length s)
unfolding head_at from
head_within s at e a p g = go (head_length (drop at s)) (head_leaves (drop at s)) (rw g at p)
  where
    go : (o : Option ℕ) → OnSome (λ k. 2 + k ≤ length (drop at s)) o → Some e ≡ map_option (λ k. at + k) o → (at ≤ e) × (e + 2 ≤ length s)
    go None h q = let z : ◌≡◌ {A = ℕ} 0 1 = cc in absurd (omega arith)
    go (Some k) h q = let l : e ≡ at + k = cc in (omega arith, omega (arith, length-drop at s))

module _ (s : Bytes) (at e : ℕ) (a : Option ℕ) (p : a ≡ head_at s at) (g : a ≡ Some e) where
  pub head_after : at ≤ e
  head_after = (head_within s at e a p g).0

  pub head_fits : e + 2 ≤ length s
  head_fits = (head_within s at e a p g).1

  pub fall_head : (k : ℕ) → 4 * length (from s at) + 1 ≡ k → 4 * length (from s (e + 2)) + 1 < k
  unfolding from
  fall_head k h = omega (arith, head_after, head_fits, length-drop at s, length-drop (e + 2) s)

pub ruleset fall = (tt, fall_token_3, fall_token_2, fall_token_1, fall_next, fall_after, fall_query, fall_conjunction, fall_alternatives, head_after, head_fits, fall_head)
