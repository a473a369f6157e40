use mathlib.Core.Bool.{or-false}
use lib.Dec.{eqb}
use Rattle.text.specs.Class.{is_free, is_quotable, is_name_byte, is_value_byte, is_digit}
use Rattle.text.specs.Bytes.{bytes, any}
use Rattle.text.proofs.Laws.{any_append}
use Rattle.text.proofs.in_class.Goals as goal

pub returns-in-Blank : goal.returns-in-Blank
returns-in-Blank c = rw c.in-Blank.is

pub returns-in-Free : goal.returns-in-Free
unfolding is_free
returns-in-Free c = rw (c.in-Free.is, c.is_mark.ensures)

pub returns-in-Quotable : goal.returns-in-Quotable
unfolding is_quotable
returns-in-Quotable c = rw c.in-Quotable.is

pub returns-in-Name : goal.returns-in-Name
unfolding is_name_byte
returns-in-Name c = rw (c.in-Name.is, c.is_mark-in-Name.ensures, c.is_name_mark.ensures, any_append (eqb c.args.b) (bytes "[]|<>") (bytes ":#{}_\""))

pub returns-in-Value : goal.returns-in-Value
unfolding is_value_byte any
returns-in-Value c = rw (c.in-Value.is, c.is_mark-in-Value.ensures, any_append (eqb c.args.b) (bytes "[]|<>") (bytes "\""), or-false (eqb c.args.b 34))

pub returns-in-Digit : goal.returns-in-Digit
unfolding is_digit
returns-in-Digit c = rw c.in-Digit.is

pub returns-in-NoColon : goal.returns-in-NoColon
returns-in-NoColon c = rw c.in-NoColon.is

pub returns-in-NoDot : goal.returns-in-NoDot
returns-in-NoDot c = rw c.in-NoDot.is
