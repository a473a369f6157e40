-- What holds of the thing that was read, if something was.
use Rattle.std.specs.Prelude.{Option, Some, None}
use Prim.Native.Nat.{ℕ, zero, suc, ◌≤◌, ◌<◌}
use mathlib.Core.Path.{◌≡◌, refl, sym, ap, ◌∙◌}
use mathlib.Core.Logic.{⊎_elim}
use native.Mathlib.Nat.{eq-or-lt_of_le, le_of_suc-le-suc}
use native.Mathlib.Omega.{arith}
use Rattle.language.specs.Answer.{◌>>=◌, found}

abbrev pub OnSome : {A : Type 0} → (A → Type 0) → Option A → Type 0
OnSome P None = Unit {0}
OnSome P (Some a) = P a

module _ {A B : Type 0} (P : A → Type 0) where
  pub on_bind : (Q : B → Type 0) (o : Option A) (f : A → Option B) → OnSome P o → ((a : A) → P a → OnSome Q (f a)) → OnSome Q (o >>= f)
  on_bind Q None f h r = tt
  on_bind Q (Some a) f h r = r a h

  pub on_found : (Q : B → Type 0) (o : Option A) (f : A → Option B) (y : Option B) → OnSome P o → ((a : A) → P a → OnSome Q (f a)) → OnSome Q y → OnSome Q (found o f y)
  on_found Q None f y h r z = z
  on_found Q (Some a) f y h r z = r a h

  pub same_bind : (o : Option A) (f g : A → Option B) → OnSome P o → ((a : A) → P a → f a ≡ g a) → (o >>= f) ≡ (o >>= g)
  same_bind None f g h r = refl
  same_bind (Some a) f g h r = r a h

  pub same_found : (o : Option A) (f g : A → B) (y : B) → OnSome P o → ((a : A) → P a → f a ≡ g a) → found o f y ≡ found o g y
  same_found None f g y h r = refl
  same_found (Some a) f g y h r = r a h

pub on_weaker : {A : Type 0} (P Q : A → Type 0) (o : Option A) → OnSome P o → ((a : A) → P a → Q a) → OnSome Q o
on_weaker P Q None h r = tt
on_weaker P Q (Some a) h r = r a h

-- a reader that no longer changes from a bound on is one reader there
pub settled : {A : Type 0} (f : ℕ → A) (b : ℕ) → ((n : ℕ) → b ≤ n → f (suc n) ≡ f n) → (n m : ℕ) → b ≤ n → b ≤ m → f n ≡ f m
settled f b h n m l k = down n l ∙ sym (down m k)
  where
    down : (n : ℕ) → b ≤ n → f n ≡ f b
    down zero l = ap f (omega arith)
    down (suc n) l =
        ⊎_elim (λ (e : b ≡ suc n). rw e) (λ (m : b < suc n). h n (le_of_suc-le-suc m) ∙ down n (le_of_suc-le-suc m)) (eq-or-lt_of_le l)
