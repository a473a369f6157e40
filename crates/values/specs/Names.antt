-- References and identifiers, and the rule for values. Document 01, "Names, values and kinds"; names are `names`' affair.
use Rattle.std.specs.Prelude.{suc, Bool, cond, not, ◌&&◌, [], ltb, eqb, length, take, drop}
use Rattle.text.specs.Bytes.{Bytes, same, all, is_blank, span, trim}
use Rattle.text.specs.Class.{is_value_byte, is_other}
use Rattle.names.specs.Names.{composed_name, is_sized, first, last, is_name, is_namespace, is_composed_name, is_composed_namespace}

-- "1 to 64 bytes, none below 32, not 127, none of `[ ] | < > "`, no blank at either end, not beginning with `~`"
unfoldable pub is_value : Bytes → Bool
is_value s = is_sized s && all is_value_byte s && not (eqb (first s) 126) && not (is_blank (first s)) && not (is_blank (last s))

-- References as written, thesis 5.2.2: a bare article name, or namespace and article name.
pub data Reference : Type 0 where
  bare : Bytes → Reference
  qualified : Bytes → Bytes → Reference

-- "`name` or `namespace:name`, split at the colon, both sides trimmed"
unfoldable pub reference : Bytes → Reference
reference s =
    cond (ltb (span (is_other 58) s) (length s))
    (qualified (trim (take (span (is_other 58) s) s)) (trim (drop (suc (span (is_other 58) s)) s)))
    (bare (trim s))

-- The rule for references goes by the names as typed.
abbrev pub is_reference : Reference → Bool
is_reference (bare x) = is_name x
is_reference (qualified n x) = is_namespace n && is_name x

-- A reference with its names composed.
abbrev pub composed_reference : Reference → Reference
composed_reference (bare x) = bare (composed_name x)
composed_reference (qualified n x) = qualified (composed_name n) (composed_name x)

-- A reference whose names are composed and keep the rule.
abbrev pub is_composed_reference : Reference → Bool
is_composed_reference (bare x) = is_composed_name x
is_composed_reference (qualified n x) = is_composed_namespace n && is_composed_name x

-- Identifiers, thesis 4.2.1: namespace and article name.
pub record Identifier : Type 0 where
  pub namespace : Bytes
  pub article : Bytes

-- "`Berlin` and `:Berlin` are the same page."
abbrev pub identifier : Reference → Identifier
identifier (bare x) = record { namespace = []; article = x }
identifier (qualified n x) = record { namespace = n; article = x }

abbrev pub same_identifier : Identifier → Identifier → Bool
same_identifier i j = same i.namespace j.namespace && same i.article j.article
