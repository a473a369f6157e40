-- Truth values that tests come to.
use Prim.Native.Nat.{ℕ, zero, suc}
use mathlib.Core.Path.{◌≡◌, refl, sym, ap, ap₂, ◌∙◌}
use mathlib.Core.Bool.{Bool, true, false, not, ◌&&◌, and-eq-true_iff, or-false, and_assoc}
use mathlib.Core.List.{List, [], ◌∷◌, ◌++◌, map, Memᴰ}
use lib.Dec.{eqb}
use lib.ListN.{get_or}
use borrow.Author.Tests.{eqb-true, eq-eqb}
use Rattle.text.specs.Bytes.{any, all}
use Rattle.text.proofs.Laws.{any_append}
use Rattle.language.specs.Register.{distinct}
use Rattle.language.proofs.Members.{any_same, any_none}
use Rattle.language.proofs.Unions.{Decides}
use Rattle.sorting.proofs.Canonical.{same_truth}

-- Tests that hold together hold one by one.
abbrev pub together : Bool → List Bool → Bool
together a [] = a
together a (b ∷ l) = together (a && b) l

pub each : (a : Bool) (l : List Bool) → together a l ≡ true → (i : ℕ) → get_or (a ∷ l) i true ≡ true
each a [] e zero = e
each a [] e (suc i) = refl
each a (b ∷ l) e zero = ((and-eq-true_iff a b).0 (each (a && b) l e 0)).0
each a (b ∷ l) e (suc zero) = ((and-eq-true_iff a b).0 (each (a && b) l e 0)).1
each a (b ∷ l) e (suc (suc i)) = each (a && b) l e (suc i)

-- Two tests that tell what is equal agree where the ones are equal as the others are.
pub eqb_decides : Decides eqb
eqb_decides = record { equal = eqb-true; itself = λ a. eq-eqb a a refl }

module _ {A B : Type 0} {same : A → A → Bool} {other : B → B → Bool} (d : Decides same) (e : Decides other) where
  pub told : (a b : A) (x y : B) → (a ≡ b → x ≡ y) → (x ≡ y → a ≡ b) → same a b ≡ other x y
  told a b x y f g =
      same_truth (same a b) (other x y)
      (λ h. ap (λ (v : B). other v y) (f (d.equal a b h)) ∙ e.itself y)
      (λ h. ap (λ (v : A). same v b) (g (e.equal x y h)) ∙ d.itself b)

-- Tests of the elements of a list that another list stands for.
module _ {A B : Type 0} (f : A → B) where
  pub any_mapped : (p : B → Bool) (l : List A) → any p (map f l) ≡ any (λ a. p (f a)) l
  unfolding any
  any_mapped p [] = refl
  any_mapped p (x ∷ l) = rw (any_mapped p l)

  pub all_mapped : (p : B → Bool) (l : List A) → all p (map f l) ≡ all (λ a. p (f a)) l
  unfolding all
  all_mapped p [] = refl
  all_mapped p (x ∷ l) = rw (all_mapped p l)

  pub distinct_mapped : (alike : B → B → Bool) (l : List A) → distinct alike (map f l) ≡ distinct (λ a b. alike (f a) (f b)) l
  unfolding distinct
  distinct_mapped alike [] = refl
  distinct_mapped alike (x ∷ l) = rw (any_mapped (alike (f x)) l, distinct_mapped alike l)

module _ {A : Type 0} where
  pub distinct_same : (alike other : A → A → Bool) (l : List A) → ((a b : A) → Memᴰ a l → Memᴰ b l → alike a b ≡ other a b) → distinct alike l ≡ distinct other l
  unfolding distinct
  distinct_same alike other [] h = refl
  distinct_same alike other (x ∷ l) h =
      ap₂ (λ (b c : Bool). not b && c)
      (any_same (alike x) (other x) l (λ a m. h x a (Memᴰ.head refl) (Memᴰ.tail m)))
      (distinct_same alike other l (λ a b m n. h a b (Memᴰ.tail m) (Memᴰ.tail n)))

  -- Two lists of which none is like one of the other.
  pub distinct_apart : (alike : A → A → Bool) (l m : List A) → ((a b : A) → Memᴰ a l → Memᴰ b m → alike a b ≡ false) → distinct alike (l ++ m) ≡ (distinct alike l && distinct alike m)
  unfolding distinct
  distinct_apart alike [] m h = refl
  distinct_apart alike (x ∷ l) m h =
      let none : any (alike x) m ≡ false = any_none (alike x) m (λ b n. h x b (Memᴰ.head refl) n) in
      rw (any_append (alike x) l m, none, or-false (any (alike x) l), distinct_apart alike l m (λ a b i n. h a b (Memᴰ.tail i) n))
      (sym (and_assoc (not (any (alike x) l)) (distinct alike l) (distinct alike m)))
