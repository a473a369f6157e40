-- The byte classes of document 01. Sets of bytes are written as texts.
use Rattle.std.specs.Prelude.{ℕ, Bool, not, ◌&&◌, ◌||◌, leb, eqb}
use Prim.Native.String.{String}
use Rattle.text.specs.Bytes.{bytes, any, is_blank}
use Rattle.text.specs.declared.Class.{Class}

-- The byte is one of a text's.
abbrev pub one_of : String → ℕ → Bool
one_of set b = any (eqb b) (bytes set)

-- "bytes free of `[ ] | < >`" ("The query text")
unfoldable pub is_free : ℕ → Bool
is_free b = not (one_of "[]|<>" b)

-- "Quoted text is any bytes but " and byte 10." ("The register text")
unfoldable pub is_quotable : ℕ → Bool
is_quotable b = not (eqb b 34 || eqb b 10)

-- "none below 32, not 127, none of `[ ] | < > : # { } _ "`" ("Names, values and kinds")
unfoldable pub is_name_byte : ℕ → Bool
is_name_byte b = leb 32 b && not (eqb b 127) && not (one_of "[]|<>:#{}_\"" b)

-- "none below 32, not 127, none of `[ ] | < > "`"
unfoldable pub is_value_byte : ℕ → Bool
is_value_byte b = leb 32 b && not (eqb b 127) && not (one_of "[]|<>\"" b)

-- "decimal digits"
unfoldable pub is_digit : ℕ → Bool
is_digit b = leb 48 b && leb b 57

-- Any byte but one.
abbrev pub is_other : ℕ → ℕ → Bool
is_other c b = not (eqb b c)

-- What a class asks of a byte: the code scans by classes.
abbrev pub in_class : Class → ℕ → Bool
in_class Class.Blank b = is_blank b
in_class Class.Free b = is_free b
in_class Class.Quotable b = is_quotable b
in_class Class.Name b = is_name_byte b
in_class Class.Value b = is_value_byte b
in_class Class.Digit b = is_digit b
in_class Class.NoColon b = is_other 58 b
in_class Class.NoDot b = is_other 46 b
