-- Tests over the members of a list, and the truth values that they come to.
use Prim.Native.Nat.{ℕ, zero, suc, ◌<◌}
use mathlib.Core.Path.{◌≡◌, refl, ap, ap₂, ◌∙◌}
use mathlib.Core.Bool.{Bool, true, false, ◌&&◌, ◌||◌, or-true, true≢false, false≢true}
use mathlib.Core.List.{List, [], ◌∷◌, map, Memᴰ}
use native.Mathlib.Omega.{arith}
use lib.ListN.{length, get_or}
use Rattle.text.specs.Bytes.{any, all}

-- the parts of a true `&&` and of a false `||`
pub and_true : (a b : Bool) → a && b ≡ true → (a ≡ true) × (b ≡ true)
and_true true b h = (refl, h)
and_true false b h = absurd (false≢true h)

pub or_false : (a b : Bool) → a || b ≡ false → (a ≡ false) × (b ≡ false)
or_false true b h = absurd (true≢false h)
or_false false b h = (refl, h)

pub both_true : {a b : Bool} → a ≡ true → b ≡ true → a && b ≡ true
both_true e f = rw (e, f)

pub both_false : {a b : Bool} → a ≡ false → b ≡ false → a || b ≡ false
both_false e f = rw (e, f)

-- a test's two answers
pub by_test : {A : Type 0} (b : Bool) → (b ≡ true → A) → (b ≡ false → A) → A
by_test true f g = f refl
by_test false f g = g refl

module _ {A : Type 0} where
  pub any_at : (p : A → Bool) {a : A} {l : List A} → any p l ≡ false → Memᴰ a l → p a ≡ false
  unfolding any
  any_at p h (Memᴰ.head {x = x} {xs = xs} e) = ap p e ∙ (or_false (p x) (any p xs) h).0
  any_at p h (Memᴰ.tail {x = x} {xs = xs} m) = any_at p (or_false (p x) (any p xs) h).1 m

  -- some member passes
  pub any_found : (p : A → Bool) (l : List A) → any p l ≡ true → (a : A) × Memᴰ a l × (p a ≡ true)
  unfolding any
  any_found p [] h = absurd (false≢true h)
  any_found p (x ∷ l) h = go (p x) refl h (any_found p l)
    where
      go : (b : Bool) → p x ≡ b → (b || any p l) ≡ true → (any p l ≡ true → (a : A) × Memᴰ a l × (p a ≡ true)) → (a : A) × Memᴰ a (x ∷ l) × (p a ≡ true)
      go true e k ih = (x, Memᴰ.head refl, e)
      go false e k ih = let r = ih k in (r.0, Memᴰ.tail r.1, r.2)

  pub any_mem : (p : A → Bool) {a : A} {l : List A} → Memᴰ a l → p a ≡ true → any p l ≡ true
  unfolding any
  any_mem p (Memᴰ.head {xs = l} e) h = rw (← e, h)
  any_mem p (Memᴰ.tail {x = x} m) h = rw (any_mem p m h) (or-true (p x))

  pub all_at : (p : A → Bool) {a : A} {l : List A} → all p l ≡ true → Memᴰ a l → p a ≡ true
  unfolding all
  all_at p h (Memᴰ.head {x = x} {xs = xs} e) = ap p e ∙ (and_true (p x) (all p xs) h).0
  all_at p h (Memᴰ.tail {x = x} {xs = xs} m) = all_at p (and_true (p x) (all p xs) h).1 m

  pub all_of : (p : A → Bool) (l : List A) → ((a : A) → Memᴰ a l → p a ≡ true) → all p l ≡ true
  unfolding all
  all_of p [] h = refl
  all_of p (x ∷ l) h = both_true (h x (Memᴰ.head refl)) (all_of p l (λ a m. h a (Memᴰ.tail m)))

  pub all_map : {B : Type 0} (p : B → Bool) (f : A → B) (l : List A) → ((a : A) → Memᴰ a l → p (f a) ≡ true) → all p (map f l) ≡ true
  unfolding all
  all_map p f [] h = refl
  all_map p f (x ∷ l) h = both_true (h x (Memᴰ.head refl)) (all_map p f l (λ a m. h a (Memᴰ.tail m)))

  pub any_same : (p q : A → Bool) (l : List A) → ((a : A) → Memᴰ a l → p a ≡ q a) → any p l ≡ any q l
  unfolding any
  any_same p q [] h = refl
  any_same p q (x ∷ l) h = ap₂ ◌||◌ (h x (Memᴰ.head refl)) (any_same p q l (λ a m. h a (Memᴰ.tail m)))

  pub any_none : (p : A → Bool) (l : List A) → ((a : A) → Memᴰ a l → p a ≡ false) → any p l ≡ false
  unfolding any
  any_none p [] h = refl
  any_none p (x ∷ l) h = both_false (h x (Memᴰ.head refl)) (any_none p l (λ a m. h a (Memᴰ.tail m)))

  -- one side or the other passes somewhere
  pub any_or : (p q : A → Bool) (l : List A) → any p l || any q l ≡ any (λ a. p a || q a) l
  unfolding any
  any_or p q [] = refl
  any_or p q (x ∷ l) = shuffle (p x) (any p l) (q x) (any q l) ∙ ap (λ b. p x || q x || b) (any_or p q l)
    where
      shuffle : (a b c d : Bool) → a || b || (c || d) ≡ a || c || (b || d)
      shuffle true b c d = refl
      shuffle false true true d = refl
      shuffle false true false d = refl
      shuffle false false c d = refl

  pub map_same : {B : Type 0} (f g : A → B) (l : List A) → ((a : A) → Memᴰ a l → f a ≡ g a) → map f l ≡ map g l
  map_same f g [] h = refl
  map_same f g (x ∷ l) h = ap₂ ◌∷◌ (h x (Memᴰ.head refl)) (map_same f g l (λ a m. h a (Memᴰ.tail m)))

  pub map_itself : (f : A → A) (l : List A) → ((a : A) → Memᴰ a l → f a ≡ a) → map f l ≡ l
  map_itself f [] h = refl
  map_itself f (x ∷ l) h = ap₂ ◌∷◌ (h x (Memᴰ.head refl)) (map_itself f l (λ a m. h a (Memᴰ.tail m)))

  pub get_d_mapped : {B : Type 0} (f : A → B) (l : List A) (i : ℕ) (d : A) (e : B) → i < length l → get_or (map f l) i e ≡ f (get_or l i d)
  get_d_mapped f [] i d e h = absurd (omega arith)
  get_d_mapped f (x ∷ l) zero d e h = refl
  get_d_mapped f (x ∷ l) (suc i) d e h = get_d_mapped f l i d e (omega arith)
