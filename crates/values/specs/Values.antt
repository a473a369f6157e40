-- Kinds, and the values of each. Document 01, "Names, values and kinds"; thesis 4.2.1 and 4.3.1.
use Rattle.std.specs.Prelude.{ℕ, suc, ◌+◌, ◌*◌, ◌-◌, ◌^◌, Bool, true, false, cond, ◌&&◌, List, [], ◌∷◌, map, leb, ltb, eqb, length, take, drop, ℤ, pos, negsuc, neg_ℤ, Option, Some, None}
use Rattle.text.specs.Bytes.{Bytes, bytes, numbers, order_of, same, all, any, span}
use Rattle.text.specs.Class.{is_digit}
use Rattle.text.specs.Table.{bit}
use Rattle.std.specs.declared.cmp.Ordering.{Ordering}
use Rattle.std.specs.declared.cmp.Ordering.TheVariants.{Less, Equal, Greater}
use Rattle.values.specs.declared.Kind.{Kind}
use Rattle.values.specs.declared.Scalar.{Scalar}
use Rattle.values.specs.Names.{Identifier, same_identifier, reference, is_reference, composed_reference, identifier}

-- "Kinds: `page`, `number`, `boolean`, `string`."
abbrev pub kind_word : Kind → Bytes
kind_word Kind.Page = bytes "page"
kind_word (Kind.Scalar Scalar.Number) = bytes "number"
kind_word (Kind.Scalar Scalar.Boolean) = bytes "boolean"
kind_word Kind.String = bytes "string"

abbrev pub kinds : List Kind
kinds = Kind.Page ∷ Kind.Scalar Scalar.Number ∷ Kind.Scalar Scalar.Boolean ∷ Kind.String ∷ []

-- The byte of a kind in held forms, its place among the kinds.
abbrev pub scalar_code : Scalar → ℕ
scalar_code Scalar.Number = 1
scalar_code Scalar.Boolean = 2

abbrev pub kind_code : Kind → ℕ
kind_code Kind.Page = 0
kind_code (Kind.Scalar k) = scalar_code k
kind_code Kind.String = 3

abbrev pub kind_count : ℕ
kind_count = 4

-- The kind of a byte; a byte that no kind has is read as the last kind's.
unfoldable pub kind_from : ℕ → Kind
kind_from n =
    cond (eqb n 0) Kind.Page
    (cond (eqb n 1) (Kind.Scalar Scalar.Number)
    (cond (eqb n 2) (Kind.Scalar Scalar.Boolean) Kind.String))

abbrev pub same_scalar : Scalar → Scalar → Bool
same_scalar j k = eqb (scalar_code j) (scalar_code k)

abbrev pub same_kind : Kind → Kind → Bool
same_kind Kind.Page Kind.Page = true
same_kind Kind.Page (Kind.Scalar k) = false
same_kind Kind.Page Kind.String = false
same_kind (Kind.Scalar j) Kind.Page = false
same_kind (Kind.Scalar j) (Kind.Scalar k) = same_scalar j k
same_kind (Kind.Scalar j) Kind.String = false
same_kind Kind.String Kind.Page = false
same_kind Kind.String (Kind.Scalar k) = false
same_kind Kind.String Kind.String = true

-- What was read, changed by f.
abbrev pub map_option : {A B : Type 0} → (A → B) → Option A → Option B
map_option f None = None
map_option f (Some a) = Some (f a)

-- Constants, CVal of thesis 4.2.1. A value of a scalar kind is told by its code, a number; the order of codes is the kind's own.
pub data Constant : Type 0 where
  scalar : Scalar → ℕ → Constant
  string : Bytes → Constant

-- What a page holds under a property, CVal + CIdent of thesis 4.3.1.
pub data Value : Type 0 where
  plain : Constant → Value
  link : Identifier → Value

abbrev pub kind_of_constant : Constant → Kind
kind_of_constant (scalar k c) = Kind.Scalar k
kind_of_constant (string s) = Kind.String

abbrev pub kind_of : Value → Kind
kind_of (plain c) = kind_of_constant c
kind_of (link i) = Kind.Page

-- The number that decimal digits write, behind those already read.
unfoldable pub decimal : ℕ → Bytes → ℕ
decimal n [] = n
decimal n (b ∷ s) = decimal (10 * n + (b - 48)) s

-- "1 to 15 decimal digits"
unfoldable pub read_digits : Bytes → Option ℕ
read_digits s = cond (leb 1 (length s) && leb (length s) 15 && all is_digit s) (Some (decimal 0 s)) None

-- Document 02, "Half crates": "a point and one to three digits after its digits", or nothing. What they add is a count of thousandths.
unfoldable pub read_fraction : Bytes → Option ℕ
read_fraction [] = Some 0
read_fraction (b ∷ s) = cond (eqb b 46 && leb (length s) 3) (map_option (λ n. n * 10 ^ (3 - length s)) (read_digits s)) None

-- Both, where both are read.
abbrev pub in_thousandths : Option ℕ → Option ℕ → Option ℕ
in_thousandths None m = None
in_thousandths (Some n) None = None
in_thousandths (Some n) (Some m) = Some (1000 * n + m)

-- "its value is a count of thousandths": its digits, and what stands behind them.
unfoldable pub read_thousandths : Bytes → Option ℕ
read_thousandths s = in_thousandths (read_digits (take (span is_digit s) s)) (read_fraction (drop (span is_digit s) s))

-- "an optional minus", then its digits
unfoldable pub read_number : Bytes → Option ℤ
read_number [] = None
read_number (b ∷ s) = cond (eqb b 45) (map_option (λ n. neg_ℤ (pos n)) (read_thousandths s)) (map_option pos (read_thousandths (b ∷ s)))

-- An ASCII letter in its small form; any other byte as it is.
abbrev pub lower : ℕ → ℕ
lower b = cond (leb 65 b && leb b 90) (b + 32) b

-- "`true`, `yes`, `1` or `false`, `no`, `0`, ASCII letters in either case"
unfoldable pub read_boolean : Bytes → Option Bool
read_boolean s =
    let t = map lower s in
    cond (any (same t) (bytes "true" ∷ bytes "yes" ∷ bytes "1" ∷ [])) (Some true)
    (cond (any (same t) (bytes "false" ∷ bytes "no" ∷ bytes "0" ∷ [])) (Some false) None)

-- "A page value is a reference.", its names composed.
unfoldable pub read_link : Bytes → Option Identifier
read_link s = cond (is_reference (reference s)) (Some (identifier (composed_reference (reference s)))) None

-- 10^18, above every number that is read in thousandths, and the code of a number: 10^18 more.
abbrev pub base : ℕ
base = 1_000_000_000_000_000_000

abbrev pub biased : ℤ → ℕ
biased (pos n) = base + n
biased (negsuc n) = base - suc n

-- The code of the value that bytes write in a scalar kind, or none: they are unfit for it. "false is less than true"
abbrev pub read_scalar : Scalar → Bytes → Option ℕ
read_scalar Scalar.Number s = map_option biased (read_number s)
read_scalar Scalar.Boolean s = map_option bit (read_boolean s)

-- The codes that a scalar kind has: from the lowest up to the one above all.
abbrev pub lowest : Scalar → ℕ
lowest Scalar.Number = 1
lowest Scalar.Boolean = 0

abbrev pub above : Scalar → ℕ
above Scalar.Number = 2 * base
above Scalar.Boolean = 2

unfoldable pub in_range : Scalar → ℕ → Bool
in_range k c = leb (lowest k) c && ltb c (above k)

-- The constant that bytes write in a kind, or none: they are unfit for it. A page value is no constant.
abbrev pub read_constant : Kind → Bytes → Option Constant
read_constant Kind.Page s = None
read_constant (Kind.Scalar k) s = map_option (scalar k) (read_scalar k s)
read_constant Kind.String s = Some (string s)

-- The value that bytes write in a kind, or none.
abbrev pub read_value : Kind → Bytes → Option Value
read_value Kind.Page s = map_option link (read_link s)
read_value (Kind.Scalar k) s = map_option plain (read_constant (Kind.Scalar k) s)
read_value Kind.String s = map_option plain (read_constant Kind.String s)

-- The order of two constants of one kind; none for two kinds (thesis 4.5.2).
abbrev pub order_constants : Constant → Constant → Option Ordering
order_constants (scalar j a) (scalar k b) = cond (same_scalar j k) (Some (numbers a b)) None
order_constants (scalar k a) (string b) = None
order_constants (string a) (scalar k b) = None
order_constants (string a) (string b) = Some (order_of a b)

abbrev pub is_equal_order : Option Ordering → Bool
is_equal_order None = false
is_equal_order (Some Less) = false
is_equal_order (Some Equal) = true
is_equal_order (Some Greater) = false

-- Two values are one: `7` and `007`, `Berlin` and `:Berlin`.
abbrev pub same_value : Value → Value → Bool
same_value (plain a) (plain b) = is_equal_order (order_constants a b)
same_value (plain a) (link j) = false
same_value (link i) (plain b) = false
same_value (link i) (link j) = same_identifier i j

-- The orders that the codes of numbers and of booleans keep (`number_order` and `boolean_order` in proofs/Coded).
abbrev pub order_numbers : ℤ → ℤ → Ordering
order_numbers (pos a) (pos b) = numbers a b
order_numbers (pos a) (negsuc b) = Greater
order_numbers (negsuc a) (pos b) = Less
order_numbers (negsuc a) (negsuc b) = numbers b a

-- "false is less than true"
abbrev pub order_booleans : Bool → Bool → Ordering
order_booleans true true = Equal
order_booleans true false = Greater
order_booleans false true = Less
order_booleans false false = Equal
