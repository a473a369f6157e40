-- A page's categories and values as sets: what one more form leaves of them.
use Prim.Native.Nat.{ℕ, ◌+◌, ◌≤◌}
use mathlib.Core.Path.{◌≡◌, refl, sym, ap, ◌∙◌}
use mathlib.Core.Bool.{Bool, true, false, cond, not, ◌||◌, true≢false}
use mathlib.Core.List.{List, [], ◌∷◌, ◌++◌}
use native.Mathlib.Omega.{arith}
use lib.ListN.{length, length-append}
use borrow.Author.Tests.{not-true}
use Rattle.text.specs.Bytes.{Bytes, same, any, all}
use Rattle.text.proofs.Laws.{any_append, all_append}
use Rattle.language.specs.Register.{Held, distinct}
use Rattle.language.specs.RegisterText.{add_category, same_held, add_held}
use Rattle.language.specs.Rules.{total}
use Rattle.language.proofs.Members.{and_true, or_false, by_test}

-- An element behind a list that has none like it.
unfoldable pub added : {A : Type 0} → (A → A → Bool) → A → List A → List A
added alike a l = cond (any (alike a) l) l (l ++ (a ∷ []))

added_step : {A : Type 0} (a b : A) (l : List A) (s t : Bool) → cond s (b ∷ l) (b ∷ cond t l (l ++ (a ∷ []))) ≡ cond (s || t) (b ∷ l) (b ∷ (l ++ (a ∷ [])))
added_step a b l true t = refl
added_step a b l false true = refl
added_step a b l false false = refl

pub category_added : (x : Bytes) (l : List Bytes) → add_category x l ≡ added same x l
unfolding add_category added any
category_added x [] = refl
category_added x (y ∷ l) = rw (category_added x l) (added_step x y l (same x y) (any (same x) l))

pub held_added : (h : Held) (l : List Held) → add_held h l ≡ added same_held h l
unfolding add_held added any
held_added h [] = refl
held_added h (g ∷ l) = rw (held_added h l) (added_step h g l (same_held h g) (any (same_held h) l))

pub total_append : {A : Type 0} (f : A → ℕ) (s t : List A) → total f (s ++ t) ≡ total f s + total f t
unfolding total
total_append f [] t = omega arith
total_append f (a ∷ s) t = omega (arith, total_append f s t)

module _ {A : Type 0} (alike : A → A → Bool) (a : A) (l : List A) where
  pub all_added : (p : A → Bool) → p a ≡ true → all p l ≡ true → all p (added alike a l) ≡ true
  unfolding added all
  all_added p e h = go (any (alike a) l)
    where
      go : (t : Bool) → all p (cond t l (l ++ (a ∷ []))) ≡ true
      go true = h
      go false = rw (all_append p l (a ∷ []), h, e)

  pub total_added : (f : A → ℕ) → total f (added alike a l) ≤ total f l + f a
  unfolding added total
  total_added f = go (any (alike a) l)
    where
      go : (t : Bool) → total f (cond t l (l ++ (a ∷ []))) ≤ total f l + f a
      go true = omega arith
      go false = omega (arith, total_append f l (a ∷ []))

  pub length_added : length (added alike a l) ≤ length l + 1
  unfolding added
  length_added = go (any (alike a) l)
    where
      go : (t : Bool) → length (cond t l (l ++ (a ∷ []))) ≤ length l + 1
      go true = omega arith
      go false = omega (arith, length-append l (a ∷ []))

-- No two are alike after it, where alike means equal.
module _ {A : Type 0} (alike : A → A → Bool) (one : (a b : A) → alike a b ≡ true → a ≡ b) (itself : (a : A) → alike a a ≡ true) where
  pub unlike_back : (a b : A) → alike a b ≡ false → alike b a ≡ false
  unlike_back a b h =
      by_test (alike b a) (λ e. absurd (true≢false (sym (itself a) ∙ ap (alike a) (sym (one b a e)) ∙ h))) (λ e. e)

  distinct_behind : (a : A) (l : List A) → any (alike a) l ≡ false → distinct alike l ≡ true → distinct alike (l ++ (a ∷ [])) ≡ true
  unfolding distinct any
  distinct_behind a [] e h = refl
  distinct_behind a (b ∷ l) e h =
      let u = or_false (alike a b) (any (alike a) l) e in
      let t = and_true (not (any (alike b) l)) (distinct alike l) h in
      rw (any_append (alike b) l (a ∷ []), not-true (any (alike b) l) t.0, unlike_back a b u.0) (distinct_behind a l u.1 t.1)

  pub distinct_added : (a : A) (l : List A) → distinct alike l ≡ true → distinct alike (added alike a l) ≡ true
  unfolding added
  distinct_added a l h = go (any (alike a) l) refl
    where
      go : (t : Bool) → any (alike a) l ≡ t → distinct alike (cond t l (l ++ (a ∷ []))) ≡ true
      go true e = h
      go false e = distinct_behind a l e h
