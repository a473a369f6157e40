-- The shortest text of a value. Request 9: "numbers at their shortest, booleans as true and false, main links without a colon,
-- other links without blanks at theirs".
use Rattle.std.specs.Prelude.{ℕ, zero, suc, ◌+◌, ◌-◌, ◌/◌, ◌%◌, Bool, true, false, cond, [], ◌∷◌, ◌++◌, ltb, eqb, ℤ, pos, negsuc, length}
use Rattle.text.specs.Bytes.{Bytes, bytes}
use Rattle.values.specs.Names.{Identifier}
use Rattle.values.specs.Values.{scalar, string, Value, plain, link, base}
use Rattle.values.specs.declared.Scalar.{Scalar}

-- The decimal digits of a number; the first number bounds how many.
unfoldable pub digits_within : ℕ → ℕ → Bytes
digits_within zero n = []
digits_within (suc k) n = elim (ltb n 10) [ true ↦ (48 + n) ∷ [] | false ↦ digits_within k (n / 10) ++ ((48 + (n % 10)) ∷ []) ]

-- A number has no more digits than units, but for 0, which has one.
unfoldable pub digits : ℕ → Bytes
digits n = digits_within (suc n) n

-- The digits behind the point of so many thousandths, zeros at the end left out.
unfoldable pub spell_fraction : ℕ → Bytes
spell_fraction n =
    cond (eqb n 0) []
    (46 ∷ (48 + n / 100) ∷ cond (eqb (n % 100) 0) []
    ((48 + n / 10 % 10) ∷ cond (eqb (n % 10) 0) [] ((48 + n % 10) ∷ [])))

unfoldable pub spell_thousandths : ℕ → Bytes
spell_thousandths n = digits (n / 1000) ++ spell_fraction (n % 1000)

unfoldable pub spell_number : ℤ → Bytes
spell_number (pos n) = spell_thousandths n
spell_number (negsuc n) = 45 ∷ spell_thousandths (suc n)

abbrev pub spell_boolean : Bool → Bytes
spell_boolean true = bytes "true"
spell_boolean false = bytes "false"

-- `name`, or `namespace:name`
unfoldable pub spell_identifier : Identifier → Bytes
spell_identifier i = cond (eqb (length i.namespace) 0) i.article (i.namespace ++ (58 ∷ i.article))

-- The number that a code tells.
unfoldable pub number_from : ℕ → ℤ
number_from c = cond (ltb c base) (negsuc (base - suc c)) (pos (c - base))

-- The value of a code.
abbrev pub spell_scalar : Scalar → ℕ → Bytes
spell_scalar Scalar.Number c = spell_number (number_from c)
spell_scalar Scalar.Boolean c = spell_boolean (eqb c 1)

unfoldable pub spelling : Value → Bytes
spelling (plain (scalar k c)) = spell_scalar k c
spelling (plain (string s)) = s
spelling (link i) = spell_identifier i
