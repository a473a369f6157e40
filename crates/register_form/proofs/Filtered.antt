-- Those elements of a list that pass a test: laws of `filtered`.
use mathlib.Core.Path.{◌≡◌, refl, sym, ap, ap₂, ◌∙◌}
use mathlib.Core.Bool.{Bool, true, false, cond, not}
use mathlib.Core.Logic.{◌⊎◌, inl, inr}
use mathlib.Core.List.Memᴰ
use mathlib.Core.List.{List, [], ◌∷◌, ◌++◌, map, append-nil, Memᴰ}
use borrow.Author.Tests.{not-true}
use Rattle.language.proofs.Members.{by_test}
use Rattle.register_form.specs.Draft.{filtered}

module _ {A : Type 0} (p : A → Bool) where
  pub filtered_append : (l m : List A) → filtered p (l ++ m) ≡ filtered p l ++ filtered p m
  unfolding filtered
  filtered_append [] m = refl
  filtered_append (x ∷ l) m = go (p x) (filtered_append l m)
    where
      go : (b : Bool) → filtered p (l ++ m) ≡ filtered p l ++ filtered p m → cond b (x ∷ filtered p (l ++ m)) (filtered p (l ++ m)) ≡ cond b (x ∷ filtered p l) (filtered p l) ++ filtered p m
      go true h = ap (λ r. x ∷ r) h
      go false h = h

  pub filtered_map : {B : Type 0} (f : B → A) (l : List B) → filtered p (map f l) ≡ map f (filtered (λ b. p (f b)) l)
  unfolding filtered
  filtered_map f [] = refl
  filtered_map f (x ∷ l) = go (p (f x)) (filtered_map f l)
    where
      go : (b : Bool) → filtered p (map f l) ≡ map f (filtered (λ b. p (f b)) l) → cond b (f x ∷ filtered p (map f l)) (filtered p (map f l)) ≡ map f (cond b (x ∷ filtered (λ b. p (f b)) l) (filtered (λ b. p (f b)) l))
      go true h = ap (λ r. f x ∷ r) h
      go false h = h

  pub of_filtered : (l : List A) {a : A} → Memᴰ a (filtered p l) → Memᴰ a l × (p a ≡ true)
  unfolding filtered
  of_filtered [] m = absurd (Memᴰ.not-nil m)
  of_filtered (x ∷ l) {a} m = go (p x) refl m (λ n. let r = of_filtered l n in (Memᴰ.tail r.0, r.1))
    where
      go : (b : Bool) → p x ≡ b → Memᴰ a (cond b (x ∷ filtered p l) (filtered p l)) → (Memᴰ a (filtered p l) → Memᴰ a (x ∷ l) × (p a ≡ true)) → Memᴰ a (x ∷ l) × (p a ≡ true)
      go true e (Memᴰ.head f) later = (Memᴰ.head f, ap p f ∙ e)
      go true e (Memᴰ.tail n) later = later n
      go false e n later = later n

  pub mem_filtered : {a : A} {l : List A} → Memᴰ a l → p a ≡ true → Memᴰ a (filtered p l)
  unfolding filtered
  mem_filtered {a} (Memᴰ.head {x = x} {xs = l} e) h = rw (ap p (sym e) ∙ h) (Memᴰ.head e)
  mem_filtered {a} (Memᴰ.tail {x = x} {xs = l} m) h = go (p x) (mem_filtered m h)
    where
      go : (b : Bool) → Memᴰ a (filtered p l) → Memᴰ a (cond b (x ∷ filtered p l) (filtered p l))
      go true n = Memᴰ.tail n
      go false n = n

  pub filtered_all : (l : List A) → ((a : A) → Memᴰ a l → p a ≡ true) → filtered p l ≡ l
  unfolding filtered
  filtered_all [] h = refl
  filtered_all (x ∷ l) h = rw (h x (Memᴰ.head refl)) (ap (λ r. x ∷ r) (filtered_all l (λ a m. h a (Memᴰ.tail m))))

  pub filtered_none : (l : List A) → ((a : A) → Memᴰ a l → p a ≡ false) → filtered p l ≡ []
  unfolding filtered
  filtered_none [] h = refl
  filtered_none (x ∷ l) h = rw (h x (Memᴰ.head refl)) (filtered_none l (λ a m. h a (Memᴰ.tail m)))

-- Those that pass a test, and then those that fail it.
module _ {A : Type 0} (p : A → Bool) (l : List A) where
  fails : {a : A} → Memᴰ a (filtered (λ a. not (p a)) l) → p a ≡ false
  fails {a} m = not-true (p a) (of_filtered (λ a. not (p a)) l m).1

  pub split_passes : filtered p (filtered p l ++ filtered (λ a. not (p a)) l) ≡ filtered p l
  split_passes =
      filtered_append p (filtered p l) (filtered (λ a. not (p a)) l)
      ∙ ap₂ ◌++◌ (filtered_all p (filtered p l) (λ a m. (of_filtered p l m).1)) (filtered_none p (filtered (λ a. not (p a)) l) (λ a m. fails m))
      ∙ append-nil (filtered p l)

  pub split_fails : filtered (λ a. not (p a)) (filtered p l ++ filtered (λ a. not (p a)) l) ≡ filtered (λ a. not (p a)) l
  split_fails =
      filtered_append (λ a. not (p a)) (filtered p l) (filtered (λ a. not (p a)) l)
      ∙ ap₂ ◌++◌
      (filtered_none (λ a. not (p a)) (filtered p l) (λ a m. ap not (of_filtered p l m).1))
      (filtered_all (λ a. not (p a)) (filtered (λ a. not (p a)) l) (λ a m. ap not (fails m)))

  pub of_split : {a : A} → Memᴰ a (filtered p l ++ filtered (λ a. not (p a)) l) → Memᴰ a l
  of_split {a} m = go (Memᴰ.append_cases (filtered p l) m)
    where
      go : Memᴰ a (filtered p l) ⊎ Memᴰ a (filtered (λ a. not (p a)) l) → Memᴰ a l
      go (inl n) = (of_filtered p l n).0
      go (inr n) = (of_filtered (λ a. not (p a)) l n).0

  pub mem_split : {a : A} → Memᴰ a l → Memᴰ a (filtered p l ++ filtered (λ a. not (p a)) l)
  mem_split {a} m =
      by_test (p a)
      (λ e. Memᴰ.append_left (filtered (λ a. not (p a)) l) (mem_filtered p m e))
      (λ e. Memᴰ.append_right (filtered p l) (mem_filtered (λ a. not (p a)) m (ap not e)))
