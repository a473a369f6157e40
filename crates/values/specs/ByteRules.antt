-- Working definitions: the rules for the bytes of names and values, in a table.
use Rattle.std.specs.Prelude.{ℕ, ◌+◌, ◌%◌, ◌^◌, ◌≡◌, Bool, cond, List, ltb, get_or}
use Rattle.text.specs.Bytes.{Bytes, all}
use Rattle.text.specs.Class.{is_value_byte}
use Rattle.text.specs.Table.{tabulate}
use Rattle.names.specs.Codes.{is_plain}
use Rattle.names.specs.Names.{is_composed_name}
use Rattle.names.specs.Steps.{is_letter_byte}
use Rattle.values.specs.Names.{is_value}

-- Of a byte: 0 where a name may have it by itself, 1 where a composed name may have it in a pair, 2 where only a value may, 4 where neither
-- may.
unfoldable pub rule_of : ℕ → ℕ
rule_of b = cond (is_plain b) 0 (cond (is_letter_byte b) 1 (cond (is_value_byte b) 2 4))

-- Of each byte, as a digit in ASCII.
unfoldable pub rule_table : List ℕ
rule_table = tabulate 256 (λ b. 48 + rule_of b)

-- The digits that a table has for the bytes of a text are below 2^k.
unfoldable pub are_below : List ℕ → ℕ → Bytes → Bool
are_below t k s = all (λ b. ltb (get_or t b 0 % 16) (2 ^ k)) s

-- What putting together the bits of those digits answers.
pub record RuledOut (t : List ℕ) (s : Bytes) (r : ℕ) : Type 0 where
  pub below : (k : ℕ) → ltb r (2 ^ k) ≡ are_below t k s

-- Of a text: 2 for a composed name, 1 for a value that is none, 0 for any other.
abbrev pub name_class : Bytes → ℕ
name_class s = cond (is_composed_name s) 2 (cond (is_value s) 1 0)
