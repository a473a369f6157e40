-- The ways to write the rows of a held register, part by part.
use Prim.Native.Nat.{ℕ, zero, suc, ◌+◌, ◌≤◌, ◌<◌}
use mathlib.Core.Path.{◌≡◌, refl}
use mathlib.Core.List.{List, [], ◌∷◌}
use native.Mathlib.Omega.{arith}
use borrow.Author.Tests.{ne_eqb}
use lib.ListN.{length, get_or, drop, length-take}
use Rattle.text.specs.Bytes.{Bytes}
use Rattle.values.specs.Values.{kind_code, kind_from}
use Rattle.dictionary.specs.Items.{text_at}
use Rattle.buffer.specs.Numbers.{two_bytes}
use Rattle.buffer.specs.Writing.{written}
use Rattle.buffer.proofs.Written.{next, written_past}
use Rattle.register_form.specs.Form.{property_bytes}
use Rattle.register_form_bytes.specs.Writing.{row_of, four_bytes}

module _ (h : Bytes) (at : ℕ) where
  pub property_is : (kind name b w : ℕ) (k l : Bytes)
      → b ≡ kind_code (kind_from kind)
      → k ≡ written h at (b ∷ [])
      → w ≡ name
      → l ≡ written k (at + 1) (two_bytes w)
      → l ≡ written h at (property_bytes (row_of kind name))
  unfolding property_bytes
  property_is kind name b w k l e f g i = rw (← e, ← g) (next h at (b ∷ []) (two_bytes w) f i)

pub counts_are : (h : Bytes) (p g t x a b c d : ℕ) (k l m o : Bytes)
    → a ≡ p → k ≡ written h 0 (two_bytes a)
    → b ≡ g → l ≡ written k 2 (two_bytes b)
    → c ≡ t → m ≡ written l 4 (two_bytes c)
    → d ≡ x → o ≡ written m 6 (two_bytes d)
    → o ≡ written h 0 (four_bytes p g t x)
counts_are h p g t x a b c d k l m o e i f j y q z r = rw (← e, ← f, ← y, ← z) (next h 0 _ _ (next h 0 _ _ (next h 0 _ _ i j) q) r)

pub kind_low : (b : ℕ) → b < 3 → b ≡ kind_code (kind_from b)
unfolding kind_from
kind_low zero l = refl
kind_low (suc zero) l = refl
kind_low (suc (suc zero)) l = refl
kind_low (suc (suc (suc n))) l = absurd (omega arith)

pub kind_high : (b : ℕ) → 3 ≤ b → 3 ≡ kind_code (kind_from b)
unfolding kind_from
kind_high b l = rw (ne_eqb b 0 (λ e. omega arith), ne_eqb b 1 (λ e. omega arith), ne_eqb b 2 (λ e. omega arith))

pub ruleset puts = (written_past, property_is, counts_are, kind_low, kind_high)

-- How long a text is.
pub text_short : (s : Bytes) (starts lens : List ℕ) (i : ℕ) → length (text_at s starts lens i) ≤ get_or lens i 0
unfolding text_at
text_short s starts lens i = omega (arith, length-take (get_or lens i 0) (drop (get_or starts i 0) s))
