-- Laws of tables and counts.
use mathlib.Core.Path.{◌≡◌, refl, sym, ◌∙◌}
use mathlib.Core.Bool.{Bool, true, false}
use mathlib.Core.List.{List, [], ◌∷◌}
use mathlib.Core.Logic.{⊎_elim}
use Prim.Native.Nat.{ℕ, zero, suc, ◌+◌, ◌<◌, ◌≤◌}
use native.Mathlib.Nat.{le_refl, eq-or-lt_of_le, le_of_suc-le-suc}
use native.Mathlib.Numerals.{add-one}
use native.Mathlib.Omega.{arith}
use lib.ListN.{length, take, get_or, set, length-append, length-set, get_or-append}
use lib.Seq.{take-suc-set, get_or_at, ext_get_or}
use Rattle.text.specs.Table.{tabulate, bit, count_to}

-- tables

module _ {A : Type 0} where
  pub length_tabulate : (n : ℕ) (f : ℕ → A) → length (tabulate n f) ≡ n
  unfolding tabulate
  length_tabulate zero f = refl
  length_tabulate (suc n) f = length-append (tabulate n f) (f n ∷ []) ∙ rw (length_tabulate n f, add-one)

  pub get_d_tabulate : (n : ℕ) (f : ℕ → A) (d : A) (i : ℕ) → i < n → get_or (tabulate n f) i d ≡ f i
  unfolding tabulate
  get_d_tabulate zero f d i h = absurd (omega arith)
  get_d_tabulate (suc n) f d i h =
      ⊎_elim
      (λ (e : i ≡ n). rw e (get_or_at (tabulate n f) (f n) [] d n (length_tabulate n f)))
      (λ (l : i < n). get_or-append (tabulate n f) (f n ∷ []) d i (rw length_tabulate l) ∙ get_d_tabulate n f d i l)
      (eq-or-lt_of_le (le_of_suc-le-suc h))

  pub tabulate_ext : (n : ℕ) (f g : ℕ → A) → ((i : ℕ) → i < n → f i ≡ g i) → tabulate n f ≡ tabulate n g
  unfolding tabulate
  tabulate_ext zero f g h = refl
  tabulate_ext (suc n) f g h = rw (tabulate_ext n f g (λ i l. h i (omega arith)), h n (le_refl _))

  -- a list that has f i at each place i is the table of f
  pub is_tabulate : (n : ℕ) (f : ℕ → A) (d : A) (l : List A) → length l ≡ n → ((i : ℕ) → i < n → get_or l i d ≡ f i) → l ≡ tabulate n f
  is_tabulate n f d l e h =
      ext_get_or d l (tabulate n f) (e ∙ sym (length_tabulate n f))
      (λ i lt. let below : i < n = omega arith in h i below ∙ sym (get_d_tabulate n f d i below))

-- a loop that stores f i at i: at its start, after a turn, and at its end

pub Filled : {A : Type 0} → ℕ → (ℕ → A) → List A → ℕ → Type 0
Filled n f l i = (length l ≡ n) × (take i l ≡ tabulate i f)

module _ {A : Type 0} where
  pub filled_none : (n : ℕ) (f : ℕ → A) (l : List A) → length l ≡ n → Filled n f l 0
  unfolding Filled tabulate
  filled_none n f l e = (e, refl)

  pub filled_more : (n : ℕ) (f : ℕ → A) (l : List A) (i : ℕ) (a : A) → i < n → a ≡ f i → Filled n f l i → Filled n f (set l i a) (i + 1)
  unfolding Filled tabulate
  filled_more n f l i a lt e h =
      (length-set l i a ∙ h.0, rw add-one (take-suc-set l i a (rw h.0 lt) ∙ rw (h.1, e)))

-- counts

pub count_none : (f : ℕ → Bool) → count_to 0 f ≡ 0
unfolding count_to
count_none f = refl

pub count_more : (f : ℕ → Bool) (i : ℕ) → count_to (i + 1) f ≡ count_to i f + bit (f i)
unfolding count_to
count_more f i = rw add-one

pub count_most : (i : ℕ) (f : ℕ → Bool) → count_to i f ≤ i
unfolding count_to
count_most zero f = omega arith
count_most (suc i) f = omega (arith, count_most i f, bit_most (f i))
  where
    bit_most : (b : Bool) → bit b ≤ 1
    bit_most true = omega arith
    bit_most false = omega arith

pub count_ext : (n : ℕ) (f g : ℕ → Bool) → ((i : ℕ) → i < n → f i ≡ g i) → count_to n f ≡ count_to n g
unfolding count_to
count_ext zero f g h = refl
count_ext (suc n) f g h = rw (count_ext n f g (λ i l. h i (omega arith)), h n (le_refl _))
