-- Laws of numbers and booleans by their codes: a code keeps the order of what it tells and loses nothing, and is in range.
use Prim.Native.Nat.{ℕ, suc, ◌+◌, ◌-◌, ◌*◌, ◌≤◌}
use mathlib.Core.Path.{◌≡◌, refl, ap}
use mathlib.Core.Bool.{Bool, true, false}
use native.Mathlib.Omega.{arith}
use lib.Dec.{eqb}
use lib.IntN.{ℤ, pos, negsuc}
use lib.ListN.{length}
use borrow.Author.Tests.{lt-ltb, le-ltb, le-leb, eq-eqb, ne_eqb}
use Rattle.text.specs.Bytes.{numbers}
use Rattle.text.specs.Table.{bit}
use Rattle.text.proofs.Laws.{numbers_less, numbers_greater, numbers_like}
use Rattle.values.specs.Values.{base, biased, in_range, order_numbers, order_booleans}
use Rattle.values.specs.Spelling.{spell_boolean, number_from, spell_scalar}
use Rattle.values.specs.declared.Scalar.{Scalar}
use Rattle.values.proofs.Decimal.{Small}

pub number_order : (a b : ℤ) → Small a → Small b → numbers (biased a) (biased b) ≡ order_numbers a b
number_order (pos a) (pos b) h k = numbers_like (base + a) (base + b) a b (omega arith) (omega arith)
number_order (pos a) (negsuc b) h k = numbers_greater _ _ (omega arith)
number_order (negsuc a) (pos b) h k = numbers_less _ _ (omega arith)
number_order (negsuc a) (negsuc b) h k = numbers_like (base - suc a) (base - suc b) b a (omega arith) (omega arith)

pub number_injective : (a b : ℤ) → Small a → Small b → biased a ≡ biased b → a ≡ b
number_injective (pos a) (pos b) h k e = let q : a ≡ b = omega arith in ap pos q
number_injective (pos a) (negsuc b) h k e = absurd (omega arith)
number_injective (negsuc a) (pos b) h k e = absurd (omega arith)
number_injective (negsuc a) (negsuc b) h k e = let q : a ≡ b = omega arith in ap negsuc q

pub boolean_order : (a b : Bool) → numbers (bit a) (bit b) ≡ order_booleans a b
unfolding numbers
boolean_order true true = refl
boolean_order true false = refl
boolean_order false true = refl
boolean_order false false = refl

-- The number that a code tells has that code.
pub number_of_code : (z : ℤ) → Small z → number_from (biased z) ≡ z
unfolding number_from
number_of_code (pos n) h = rw (le-ltb (base + n) base (omega arith)) (ap pos (let e : base + n - base ≡ n = omega arith in e))
number_of_code (negsuc n) h = rw (lt-ltb (base - suc n) base (omega arith)) (ap negsuc (let e : base - suc (base - suc n) ≡ n = omega arith in e))

pub small_in_range : (z : ℤ) → Small z → in_range Scalar.Number (biased z) ≡ true
unfolding in_range
small_in_range (pos n) h = rw (le-leb 1 (base + n) (omega arith), lt-ltb (base + n) (2 * base) (omega arith))
small_in_range (negsuc n) h = rw (le-leb 1 (base - suc n) (omega arith), lt-ltb (base - suc n) (2 * base) (omega arith))

pub bit_in_range : (b : Bool) → in_range Scalar.Boolean (bit b) ≡ true
unfolding in_range
bit_in_range true = refl
bit_in_range false = refl

pub spelled_bit : (b : Bool) → spell_scalar Scalar.Boolean (bit b) ≡ spell_boolean b
spelled_bit true = refl
spelled_bit false = refl

-- A value of 64 bits is spelled in a few bytes.
pub spelled_truth : (b : Bool) → length (spell_boolean b) ≤ 21
spelled_truth true = omega arith
spelled_truth false = omega arith

-- The ways to know how long `true` or `false` is.
pub length_true : (c : ℕ) → c ≡ 1 → 4 ≡ length (spell_boolean (eqb c 1))
length_true c h = rw (eq-eqb c 1 h)

pub length_false : (c : ℕ) → (c ≡ 1 → ⊥) → 5 ≡ length (spell_boolean (eqb c 1))
length_false c h = rw (ne_eqb c 1 h)

pub ruleset truths = (length_true, length_false)
