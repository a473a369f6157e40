-- Laws of what readers answer: effects that are equal, and readings that are mapped and read on.
use Rattle.std.specs.Prelude.{Option, Some, None}
use Prim.Native.Nat.{ℕ, suc, ◌+◌, ◌≤◌, ◌<◌, max}
use mathlib.Core.Path.{◌≡◌, refl, sym, ◌∙◌}
use mathlib.Core.Bool.{Bool, true, false, cond, ◌||◌}
use native.Mathlib.Omega.{arith}
use lib.Dec.{ltb}
use lib.ListN.{length}
use borrow.Author.Tests.{lt-ltb, le-ltb, ltb-true, ltb-false}
use Rattle.text.specs.Bytes.{Bytes}
use Rattle.language.specs.Answer.{◌>>=◌}
use Rattle.query_text_heads.specs.Effects.{Effect, After, ReadsPart, ReadsOn}
use Rattle.query_text_heads.specs.Trees.{deeper}
use Rattle.query_text_heads.specs.declared.Seen.{Seen}

-- Effects are equal by their parts.
pub same_effect : {e f : Effect} → e.nodes ≡ f.nodes → e.deep ≡ f.deep → e.name ≡ f.name → e.value ≡ f.value → e ≡ f
same_effect a b c d = λ i. record { nodes = a i; deep = b i; name = c i; value = d i }

pub or_comm : (a b : Bool) → (a || b) ≡ (b || a)
or_comm true true = refl
or_comm true false = refl
or_comm false true = refl
or_comm false false = refl

-- Tests of a number that have one truth value.
pub same_test : (a b c d : ℕ) → (a < b → c < d) → (b ≤ a → d ≤ c) → ltb a b ≡ ltb c d
same_test a b c d f g = go (ltb a b) refl
  where
    go : (t : Bool) → ltb a b ≡ t → ltb a b ≡ ltb c d
    go true e = e ∙ sym (lt-ltb c d (f (ltb-true a b e)))
    go false e = e ∙ sym (le-ltb c d (g (ltb-false a b e)))

pub deep_max : (a b c : ℕ) → (a ≤ c) × (b ≤ c) × (c ≤ max a b) → ltb 8 c ≡ (ltb 8 a || ltb 8 b)
deep_max a b c h = go (ltb 8 a) (ltb 8 b) refl refl
  where
    go : (x y : Bool) → ltb 8 a ≡ x → ltb 8 b ≡ y → ltb 8 c ≡ (ltb 8 a || ltb 8 b)
    go true y e f = rw e (lt-ltb 8 c (omega (arith, ltb-true 8 a e, h.0)))
    go false true e f = rw (e, f) (lt-ltb 8 c (omega (arith, ltb-true 8 b f, h.1)))
    go false false e f = rw (e, f) (le-ltb 8 c (omega (arith, ltb-false 8 a e, ltb-false 8 b f, h.2)))

-- One level more, at most 9.
pub one_deeper : (d k : ℕ) → ltb 8 (d + suc k) ≡ ltb 8 (deeper d + k)
one_deeper d k = go (ltb d 9) refl
  where
    go : (t : Bool) → ltb d 9 ≡ t → ltb 8 (d + suc k) ≡ ltb 8 (cond t (d + 1) 9 + k)
    go true e = same_test 8 (d + suc k) 8 (d + 1 + k) (λ h. omega arith) (λ h. omega arith)
    go false e = let l = ltb-false d 9 e in same_test 8 (d + suc k) 8 (9 + k) (λ h. omega arith) (λ h. omega arith)

-- Readings.
module _ {A : Type 0} (s : Bytes) (e : A → Effect) (t t' : Bytes) (n : Seen) (o : Option (A × Bytes)) where
  -- What was read, changed by g.
  pub reads_map : {B : Type 0} (f : B → Effect) (t₀ : Bytes) (n₀ : Seen) (g : A → B) (r : Option (ℕ × Seen)) → length t ≡ length t₀
      → ((a : A) (n' : Seen) → After t n (e a) t' n' → After t₀ n₀ (f (g a)) t' n')
      → ReadsPart s e t n o r t' → ReadsPart s f t₀ n₀ (o >>= λ x. Some (g x.0, x.1)) r t'
  unfolding ReadsPart
  reads_map f t₀ n₀ g (Some (next, n')) l h r = (g r.0, rw r.1, h r.0 n' r.2)
  reads_map f t₀ n₀ g None l h r = (rw r.0, r.1 ∙ l)

  -- What was read, read on.
  pub reads_on : (f : A → Bytes → Option (A × Bytes)) (next : ℕ) (n' : Seen) (x r : Option (ℕ × Seen)) (t'' : Bytes) → ReadsPart s e t n o x t' → x ≡ Some (next, n') → ReadsOn s e t' n' f next r t'' → ReadsPart s e t n (o >>= λ q. f q.0 q.1) r t''
  unfolding ReadsPart ReadsOn
  reads_on f next n' x r t'' h g k =
      let (a, p, q) = rw g at h in
      rw p (k a t n q)

  pub reads_no : {B : Type 0} (f : B → Effect) (k : A × Bytes → Option (B × Bytes)) (x : Option (ℕ × Seen)) → ReadsPart s e t n o x t' → x ≡ None → ReadsPart s f t n (o >>= k) None t'
  unfolding ReadsPart
  reads_no f k x h g =
      let (p, l) = rw g at h in
      (rw p, l)
