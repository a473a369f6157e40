-- What is said kind by kind. All else goes by `Kind.Page`, `Kind.Scalar k` and `Kind.String`.
use Rattle.std.specs.Prelude.{Option, Some}
use Prim.Native.Nat.{ℕ, zero, suc, ◌+◌, ◌^◌, ◌≤◌, ◌<◌}
use mathlib.Core.Path.{◌≡◌, refl}
use mathlib.Core.Bool.{true}
use mathlib.Core.List.{◌++◌}
use native.Mathlib.Omega.{arith}
use lib.Dec.{eqb}
use lib.ListN.{length}
use borrow.Author.Tests.{eq-eqb, ne_eqb}
use Rattle.text.specs.Bytes.{Bytes, starts}
use Rattle.text.specs.Table.{bit}
use Rattle.values.specs.Values.{map_option, kind_word, scalar_code, kind_code, kind_count, kind_from, read_number, read_boolean, biased, read_scalar, above, in_range}
use Rattle.values.specs.Spelling.{spell_number, spell_boolean, number_from, spell_scalar}
use Rattle.values.specs.Answers.{first_kind, kind_at}
use Rattle.values.specs.declared.Kind.{Kind}
use Rattle.values.specs.declared.Scalar.{Scalar}
use Rattle.values.proofs.Digits.{spelled_few}
use Rattle.values.proofs.Decimal.{read_small}
use Rattle.values.proofs.Spelled.{on_mapped, spelled_number_le, spelled_boolean_le}
use Rattle.values.proofs.Coded.{number_of_code, small_in_range, bit_in_range, spelled_bit, spelled_truth}

-- Words.
pub word_filled : (k : Kind) → 1 ≤ length (kind_word k)
word_filled Kind.Page = omega arith
word_filled (Kind.Scalar Scalar.Number) = omega arith
word_filled (Kind.Scalar Scalar.Boolean) = omega arith
word_filled Kind.String = omega arith

pub kind_at_word : (k : Kind) (s : Bytes) → kind_at (kind_word k ++ s) ≡ Some k
unfolding first_kind starts
kind_at_word Kind.Page s = refl
kind_at_word (Kind.Scalar Scalar.Number) s = refl
kind_at_word (Kind.Scalar Scalar.Boolean) s = refl
kind_at_word Kind.String s = refl

-- Bytes.
pub kind_coded : (k : Kind) → kind_from (kind_code k) ≡ k
unfolding kind_from
kind_coded Kind.Page = refl
kind_coded (Kind.Scalar Scalar.Number) = refl
kind_coded (Kind.Scalar Scalar.Boolean) = refl
kind_coded Kind.String = refl

pub code_told : (n : ℕ) → n < kind_count → kind_code (kind_from n) ≡ n
unfolding kind_from
code_told zero b = refl
code_told (suc zero) b = refl
code_told (suc (suc zero)) b = refl
code_told (suc (suc (suc zero))) b = refl
code_told (suc (suc (suc (suc n)))) b = absurd (omega arith)

pub code_below : (k : Kind) → kind_code k < kind_count
code_below Kind.Page = omega arith
code_below (Kind.Scalar Scalar.Number) = omega arith
code_below (Kind.Scalar Scalar.Boolean) = omega arith
code_below Kind.String = omega arith

pub codes_apart : (k : Scalar) → (scalar_code k ≡ kind_code Kind.Page → ⊥) × (scalar_code k ≡ kind_code Kind.String → ⊥)
codes_apart Scalar.Number = (λ e. omega arith, λ e. omega arith)
codes_apart Scalar.Boolean = (λ e. omega arith, λ e. omega arith)

-- What is read in a kind is in its range, and spelled at most four bytes longer: `0` and `false`.
pub read_in_range : (k : Scalar) (s : Bytes) (c : ℕ) → read_scalar k s ≡ Some c → in_range k c ≡ true
read_in_range Scalar.Number s c = on_mapped (λ c. in_range Scalar.Number c ≡ true) biased (read_number s) c (λ z e. small_in_range z (read_small s z e))
read_in_range Scalar.Boolean s c = on_mapped (λ c. in_range Scalar.Boolean c ≡ true) bit (read_boolean s) c (λ b e. bit_in_range b)

pub spelled_scalar_le : (k : Scalar) (s : Bytes) (c : ℕ) → read_scalar k s ≡ Some c → length (spell_scalar k c) ≤ length s + 4
spelled_scalar_le Scalar.Number s c =
    on_mapped (λ c. length (spell_scalar Scalar.Number c) ≤ length s + 4) biased (read_number s) c
    (λ z e. rw (number_of_code z (read_small s z e)) (omega (arith, spelled_number_le s z e)))
spelled_scalar_le Scalar.Boolean s c =
    on_mapped (λ c. length (spell_scalar Scalar.Boolean c) ≤ length s + 4) bit (read_boolean s) c
    (λ b e. rw (spelled_bit b) (spelled_boolean_le s b e))

-- A code has 64 bits, and is spelled in a few bytes.
pub above_small : (k : Scalar) → above k ≤ 2 ^ 64
above_small Scalar.Number = omega arith
above_small Scalar.Boolean = omega arith

pub spelled_scalar_few : (k : Scalar) (c : ℕ) → c < 18446744073709551616 → length (spell_scalar k c) ≤ 21
spelled_scalar_few Scalar.Number c h = spelled_few c h
spelled_scalar_few Scalar.Boolean c h = spelled_truth (eqb c 1)

-- The ways to go by the case.
pub byte_page : (b : ℕ) → b ≡ 0 → Kind.Page ≡ kind_from b
unfolding kind_from
byte_page b h = rw (eq-eqb b 0 h)

pub byte_number : (b : ℕ) → (b ≡ 0 → ⊥) → b ≡ 1 → Kind.Scalar Scalar.Number ≡ kind_from b
unfolding kind_from
byte_number b m h = rw (ne_eqb b 0 m, eq-eqb b 1 h)

pub byte_boolean : (b : ℕ) → (b ≡ 0 → ⊥) → (b ≡ 1 → ⊥) → b ≡ 2 → Kind.Scalar Scalar.Boolean ≡ kind_from b
unfolding kind_from
byte_boolean b m n h = rw (ne_eqb b 0 m, ne_eqb b 1 n, eq-eqb b 2 h)

pub byte_string : (b : ℕ) → (b ≡ 0 → ⊥) → (b ≡ 1 → ⊥) → (b ≡ 2 → ⊥) → Kind.String ≡ kind_from b
unfolding kind_from
byte_string b m n h = rw (ne_eqb b 0 m, ne_eqb b 1 n, ne_eqb b 2 h)

pub code_scalar : (k : Kind) (j : Scalar) (x : ℕ) → k ≡ Kind.Scalar j → x ≡ scalar_code j → x ≡ kind_code k
code_scalar k j x e f = rw e f

module _ (k : Scalar) where
  module _ (s : Bytes) (r : Option ℕ) where
    pub read_number_lem : k ≡ Scalar.Number → r ≡ (map_option biased (read_number s)) → r ≡ (read_scalar k s)
    read_number_lem e f = rw e f

    pub read_boolean_lem : k ≡ Scalar.Boolean → r ≡ (map_option bit (read_boolean s)) → r ≡ (read_scalar k s)
    read_boolean_lem e f = rw e f

  module _ (c : ℕ) where
    pub length_number : (r : ℕ) → k ≡ Scalar.Number → r ≡ length (spell_number (number_from c)) → r ≡ length (spell_scalar k c)
    length_number r e f = rw e f

    pub length_boolean : (r : ℕ) → k ≡ Scalar.Boolean → r ≡ length (spell_boolean (eqb c 1)) → r ≡ length (spell_scalar k c)
    length_boolean r e f = rw e f

pub ruleset bytes_of = (code_scalar, byte_page, byte_number, byte_boolean, byte_string)

pub ruleset by_scalar = (read_number_lem, read_boolean_lem, length_number, length_boolean)
