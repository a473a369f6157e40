-- Laws of the passes over a name, letter by letter.
use Rattle.std.specs.Prelude.{Option, Some, None}
use Prim.Native.Nat.{ℕ, zero, suc, ◌+◌, ◌/◌, ◌%◌, ◌≤◌, ◌<◌}
use mathlib.Core.Path.{◌≡◌, refl, sym, ap, ◌∙◌}
use mathlib.Core.List.{[], ◌∷◌, ◌++◌}
use native.Mathlib.Nat.{add-zero}
use native.Mathlib.Omega.{arith}
use lib.ListN.{length, get_or, drop, drop_of_length-le}
use lib.Seq.{get_or-drop}
use borrow.Author.Tests.{lt-ltb, le-ltb}
use Rattle.text.specs.Bytes.{Bytes, all}
use Rattle.buffer.specs.Writing.{written}
use Rattle.buffer.proofs.Written.{next}
use Rattle.names.specs.Codes.{is_plain, is_pair, read, encode, write}
use Rattle.names.specs.Names.{compose, composed}
use Rattle.names.specs.Steps.{pair_of, letter, letter_of, letter_at, prepend, LetterTold}
use Rattle.names.specs.declared.Letter.{Letter}
use Rattle.names.proofs.Letters.{composed_step}

-- A text with no letter at its front, and with one.
pub letter_empty : letter_at [] ≡ letter 0 0
unfolding letter_of is_plain pair_of is_pair
letter_empty = refl

pub composed_nothing : composed [] ≡ Some []
unfolding composed read compose all write
composed_nothing = refl

pub composed_none : (t : Bytes) → 0 < length t → (letter_at t).width ≡ 0 → composed t ≡ None
composed_none [] l h = absurd (omega arith)
composed_none (a ∷ t) l h = composed_step a t ∙ ap (λ (w : ℕ). elim w [ zero ↦ None | suc w ↦ prepend (encode (letter_at (a ∷ t)).code) (composed (drop w t)) ]) h

pub composed_more : (t : Bytes) → ((letter_at t).width ≡ 0 → ⊥) → composed t ≡ prepend (encode (letter_at t).code) (composed (drop (letter_at t).width t))
composed_more [] h = absurd (h (ap (λ (x : Letter). x.width) letter_empty))
composed_more (a ∷ t) h = go (letter_at (a ∷ t)).width refl
  where
    go : (w : ℕ) → (letter_at (a ∷ t)).width ≡ w → composed (a ∷ t) ≡ prepend (encode (letter_at (a ∷ t)).code) (composed (drop w (a ∷ t)))
    go zero e = absurd (h e)
    go (suc w) e = composed_step a t ∙ ap (λ (w : ℕ). elim w [ zero ↦ None | suc w ↦ prepend (encode (letter_at (a ∷ t)).code) (composed (drop w t)) ]) e

-- A law of every text: it holds of one where it holds of all that stands behind its first byte.
pub by_letters : (P : Bytes → Type 0) → P [] → ((a : ℕ) (s : Bytes) → ((w : ℕ) → P (drop w s)) → P (a ∷ s)) → (s : Bytes) → P s
by_letters P nil step s = go s 0
  where
    go : (s : Bytes) (k : ℕ) → P (drop k s)
    go [] zero = nil
    go [] (suc k) = nil
    go (a ∷ s) zero = step a s (go s)
    go (a ∷ s) (suc k) = go s k

-- A text that composes begins with a letter, and what is behind it composes.
pub composed_split : (a : ℕ) (s t : Bytes) → composed (a ∷ s) ≡ Some t → (P : Bytes → Type 0)
    → ((w : ℕ) (u : Bytes) → (letter_at (a ∷ s)).width ≡ suc w → composed (drop w s) ≡ Some u → P (encode (letter_at (a ∷ s)).code ++ u)) → P t
composed_split a s t h P f = go (letter_at (a ∷ s)).width refl
  where
    v : Bytes
    v = encode (letter_at (a ∷ s)).code

    rest : (w : ℕ) → (letter_at (a ∷ s)).width ≡ suc w → (o : Option Bytes) → composed (drop w s) ≡ o → prepend v o ≡ Some t → P t
    rest w e None k q = let z : ◌≡◌ {A = ℕ} 0 1 = cc in absurd (omega arith)
    rest w e (Some u) k q = let r : v ++ u ≡ t = cc in rw (← r) (f w u e k)

    go : (w : ℕ) → (letter_at (a ∷ s)).width ≡ w → P t
    go zero e = let q : None ≡ Some t = sym (composed_none (a ∷ s) (omega arith) e) ∙ h in let z : ◌≡◌ {A = ℕ} 0 1 = cc in absurd (omega arith)
    go (suc w) e =
        rest w e (composed (drop w s)) refl (rw e at (sym (composed_more (a ∷ s) (λ k. let z : suc w ≡ 0 = sym e ∙ k in omega arith)) ∙ h))

-- The letter at a place.
pub letter_past : (s : Bytes) (i : ℕ) → length s ≤ i → letter 0 0 ≡ letter_at (drop i s)
letter_past s i l = rw (drop_of_length-le s l) (sym letter_empty)

pub letter_here : (s : Bytes) (i a b c : ℕ) (x : Letter) → a ≡ get_or s i 0 → b ≡ get_or s (i + 1) 0 → c ≡ get_or s (i + 2) 0 → x ≡ letter_of a b c → x ≡ letter_at (drop i s)
letter_here s i a b c x e f g h = h ∙ rw (e, f, g, get_or-drop i s 0 0, get_or-drop i s 1 0, get_or-drop i s 2 0, add-zero i)

pub told_past : (T : Type 0) (s : Bytes) (i : ℕ) → length s ≤ i → LetterTold T (letter 0 0) (letter_at (drop i s))
told_past T s i l = record { most = omega arith; shorter = λ w. absurd (w refl); is = λ t. letter_past s i l }

pub told_here : (T : Type 0) (s : Bytes) (i a b c : ℕ) (x : Letter) → a ≡ get_or s i 0 → b ≡ get_or s (i + 1) 0 → c ≡ get_or s (i + 2) 0 → LetterTold T x (letter_of a b c) → LetterTold T x (letter_at (drop i s))
told_here T s i a b c x e f g h = record { most = h.most; shorter = h.shorter; is = λ t. letter_here s i a b c x e f g (h.is t) }

-- A code point below 2,048 in one byte and in two.
module _ (h : Bytes) (at c : ℕ) where
  pub put_one : (g : Bytes) → c < 128 → g ≡ written h at (c % 128 ∷ []) → g ≡ written h at (encode c)
  unfolding encode
  put_one g l e = let q : c % 128 ≡ c = omega arith in e ∙ rw (lt-ltb c 128 l, q)

  pub put_two : (k g : Bytes) → 128 ≤ c → k ≡ written h at ((192 + c / 64 % 32) ∷ []) → g ≡ written k (at + 1) ((128 + c % 64) ∷ []) → g ≡ written h at (encode c)
  unfolding encode
  put_two k g l e f = rw (le-ltb c 128 l) (next h at ((192 + c / 64 % 32) ∷ []) ((128 + c % 64) ∷ []) e f)
