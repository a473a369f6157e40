use Rattle.names.specs.Steps.{is_letter_byte}
use mathlib.Core.Path.{refl}
use Rattle.text.specs.Bytes.{any}
use Rattle.text.specs.Class.{is_name_byte, is_value_byte}
use Rattle.text.specs.Table.{tabulate}
use Rattle.names.specs.Codes.{is_plain}
use Rattle.values.specs.ByteRules.{rule_of, rule_table}
use Rattle.values.proofs.rules.byte_rules.Goals as goal

pub returns : goal.returns
unfolding tabulate any is_name_byte is_value_byte is_plain rule_of rule_table is_letter_byte
returns c = refl
