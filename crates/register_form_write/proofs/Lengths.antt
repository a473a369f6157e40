-- How long the spellings of names and values are, by the texts that hold them.
use Prim.Native.Nat.{ℕ, zero, suc, ◌+◌, ◌-◌, ◌<◌}
use mathlib.Core.Path.{◌≡◌, refl}
use mathlib.Core.Bool.{Bool, true, false, cond, not}
use mathlib.Core.List.{List, [], ◌∷◌, ◌++◌, Memᴰ}
use native.Mathlib.Nat.{le_refl}
use native.Mathlib.Omega.{arith}
use lib.Dec.{eqb}
use lib.ListN.{length, get_or, length-append, length-drop}
use lib.Seq.{length-take-le}
use borrow.Author.Tests.{ltb-true, eqb-true}
use Rattle.text.specs.Bytes.{Bytes}
use Rattle.text.specs.Table.{tabulate, bit}
use Rattle.values.specs.Spelling.{spell_identifier}
use Rattle.language.specs.Rules.{total}
use Rattle.register_form.specs.Dictionary.{space_of, name_of, identifier_of}
use Rattle.register_form.specs.Tests.{is_labelled, is_plain}

-- A text: the byte that tells its namespace's length, the namespace and the name.
space_length : (t : Bytes) → is_labelled t ≡ true → length (space_of t) ≡ get_or t 0 0
unfolding is_labelled space_of
space_length [] h = absurd (omega (arith, ltb-true 0 0 h))
space_length (b ∷ s) h = length-take-le b s (omega (arith, ltb-true b (suc (length s)) h))

name_length_lem : (t : Bytes) → is_labelled t ≡ true → length (name_of t) ≡ length t - 1 - get_or t 0 0
unfolding is_labelled name_of
name_length_lem [] h = absurd (omega (arith, ltb-true 0 0 h))
name_length_lem (b ∷ s) h = omega (arith, length-drop b s)

first_below : (t : Bytes) → is_labelled t ≡ true → get_or t 0 0 < length t
unfolding is_labelled
first_below t h = ltb-true (get_or t 0 0) (length t) h

pub plain_length : (t : Bytes) → is_labelled t ≡ true → is_plain t ≡ true → length (name_of t) ≡ length t - 1
plain_length t h p = omega (arith, name_length_lem t h, eqb-true (get_or t 0 0) 0 p)

pub identifier_length : (t : Bytes) → is_labelled t ≡ true → length (space_of t) + length (name_of t) ≡ length t - 1
identifier_length t h = omega (arith, space_length t h, name_length_lem t h, first_below t h)

pub link_length : (t : Bytes) → is_labelled t ≡ true → length (spell_identifier (identifier_of t)) ≡ length t - 1 + bit (not (eqb (get_or t 0 0) 0))
unfolding spell_identifier
link_length t h = rw (space_length t h) (go (eqb (get_or t 0 0) 0) refl)
  where
    go : (b : Bool) → eqb (get_or t 0 0) 0 ≡ b → length (cond b (name_of t) (space_of t ++ (58 ∷ name_of t))) ≡ length t - 1 + bit (not b)
    go true e = omega (arith, plain_length t h e)
    go false e = omega (arith, length-append (space_of t) (58 ∷ name_of t), identifier_length t h)

-- Sums over tables, and over members.
total_snoc : {A : Type 0} (f : A → ℕ) (l : List A) (x : A) → total f (l ++ (x ∷ [])) ≡ total f l + f x
unfolding total
total_snoc f [] x = omega arith
total_snoc f (y ∷ l) x = omega (arith, total_snoc f l x)

pub total_each : {A B : Type 0} (n : ℕ) (f : A → ℕ) (g : ℕ → A) (p : B → ℕ) (q : ℕ → B) → ((i : ℕ) → i < n → f (g i) ≡ p (q i)) → total f (tabulate n g) ≡ total p (tabulate n q)
unfolding tabulate total
total_each zero f g p q h = refl
total_each (suc n) f g p q h =
    omega (arith, total_snoc f (tabulate n g) (g n), total_snoc p (tabulate n q) (q n), total_each n f g p q (λ i b. h i (omega arith)), h n (le_refl _))

pub total_members : {A : Type 0} (f g : A → ℕ) (l : List A) → ((a : A) → Memᴰ a l → f a ≡ g a) → total f l ≡ total g l
unfolding total
total_members f g [] h = refl
total_members f g (x ∷ l) h = omega (arith, h x (Memᴰ.head refl), total_members f g l (λ a m. h a (Memᴰ.tail m)))
