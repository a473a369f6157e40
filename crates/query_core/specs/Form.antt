-- The form of a core query: its nodes in postfix order, and their names and string constants, one behind the other. docs/LAYOUT.md has
-- the table.
use Rattle.std.specs.Prelude.{ℕ, suc, ◌+◌, ◌%◌, Bool, true, ◌&&◌, List, [], ◌∷◌, ◌++◌, leb, length}
use Rattle.text.specs.Bytes.{Bytes, all}
use Rattle.text.specs.declared.Span.{Span}
use Rattle.buffer.specs.Numbers.{two_bytes, eight_bytes, padded}
use Rattle.names.specs.Names.{is_composed_name, is_composed_property_name, is_composed_namespace}
use Rattle.values.specs.Names.{Reference, bare, qualified, is_composed_reference, is_value}
use Rattle.values.specs.Values.{Constant, scalar, string, kind_code, in_range}
use Rattle.values.specs.declared.Kind.{Kind}
use Rattle.values.specs.declared.Scalar.{Scalar}
use Rattle.language.specs.Core.{Core, nodes}
use Rattle.language.specs.Comparators.{comparator_code as surface_code}
use Rattle.language.specs.References.{article_meant}
use Rattle.language.specs.declared.Comparator.{Comparator}
use Rattle.query_core.specs.declared.Slot.{Slot}
use Rattle.query_core.specs.Postfix.{Node, post}

-- The names and string constants of nodes, in the order of the nodes.
abbrev pub constant_string : Constant → Bytes
constant_string (scalar k n) = []
constant_string (string s) = s

-- The namespace that a reference writes, and its article name.
abbrev pub namespace_string : Reference → Bytes
namespace_string (bare x) = []
namespace_string (qualified n x) = n

unfoldable pub string_of : Node → Bytes
string_of Node.conjunction = []
string_of Node.disjunction = []
string_of (Node.category x) = x
string_of (Node.namespace x) = x
string_of (Node.existence x) = x
string_of (Node.subquery x) = x
string_of (Node.article c x) = x
string_of (Node.value x c v) = x ++ constant_string v
string_of (Node.link x c r) = x ++ namespace_string r ++ article_meant r

unfoldable pub strings : List Node → Bytes
strings [] = []
strings (x ∷ l) = string_of x ++ strings l

-- The numbers of a node whose string begins at a place. What a node does not use is 0.
abbrev pub comparator_code : Comparator → ℕ
comparator_code Comparator.Equal = 0
comparator_code Comparator.Unequal = 1
comparator_code Comparator.Greater = 2
comparator_code Comparator.Less = 3

abbrev pub span_at : ℕ → ℕ → Span
span_at at n = record { start = at; len = n }

abbrev pub no_span : Span
no_span = span_at 0 0

abbrev pub tagged : ℕ → ℕ → Span → Span → Slot
tagged t c p q = record { tag = t; comparator = c; kind = 0; first = p; second = q; number = 0 }

-- A value comparison by its constant; a scalar is held by its code.
abbrev pub scalar_slot : Span → ℕ → Scalar → ℕ → Slot
scalar_slot p c k n = record { tag = 7; comparator = c; kind = kind_code (Kind.Scalar k); first = p; second = no_span; number = n }

abbrev pub string_slot : Span → ℕ → Span → Slot
string_slot p c q = record { tag = 7; comparator = c; kind = kind_code Kind.String; first = p; second = q; number = 0 }

abbrev pub value_slot : ℕ → Bytes → Comparator → Constant → Slot
value_slot at x c (scalar k n) = scalar_slot (span_at at (length x)) (comparator_code c) k n
value_slot at x c (string s) = string_slot (span_at at (length x)) (comparator_code c) (span_at (at + length x) (length s))

-- A link: byte 2 is one more than the length of the namespace, which stands behind the property's name; 0 where none is written.
abbrev pub mark_of : ℕ → ℕ
mark_of n = suc n % 256

abbrev pub namespace_mark : Reference → ℕ
namespace_mark (bare x) = 0
namespace_mark (qualified n x) = mark_of (length n)

abbrev pub link_slot : ℕ → ℕ → Span → Span → Slot
link_slot c k p q = record { tag = 8; comparator = c; kind = k; first = p; second = q; number = 0 }

abbrev pub slot_at : ℕ → Node → Slot
slot_at at Node.conjunction = tagged 0 0 no_span no_span
slot_at at Node.disjunction = tagged 1 0 no_span no_span
slot_at at (Node.category x) = tagged 2 0 (span_at at (length x)) no_span
slot_at at (Node.namespace x) = tagged 3 0 (span_at at (length x)) no_span
slot_at at (Node.existence x) = tagged 4 0 (span_at at (length x)) no_span
slot_at at (Node.subquery x) = tagged 5 0 (span_at at (length x)) no_span
slot_at at (Node.article c x) = tagged 6 (comparator_code c) no_span (span_at at (length x))
slot_at at (Node.value x c v) = value_slot at x c v
slot_at at (Node.link x c r) =
    link_slot (surface_code c) (namespace_mark r) (span_at at (length x + length (namespace_string r)))
    (span_at (at + length x + length (namespace_string r)) (length (article_meant r)))

-- A slot's 20 bytes: what `slot_from` reads, but for byte 3, which is 0.
abbrev pub head_bytes : Slot → Bytes
head_bytes x = x.tag ∷ x.comparator ∷ x.kind ∷ 0 ∷ []

abbrev pub span_bytes : Span → Bytes
span_bytes p = two_bytes p.start ++ two_bytes p.len

unfoldable pub slot_bytes : Slot → Bytes
slot_bytes x = head_bytes x ++ span_bytes x.first ++ span_bytes x.second ++ eight_bytes x.number

-- The slots of nodes whose strings begin at a place, one behind the other.
unfoldable pub slots_from : ℕ → List Node → Bytes
slots_from at [] = []
slots_from at (x ∷ l) = slot_bytes (slot_at at x) ++ slots_from (at + length (string_of x)) l

-- How many nodes, the nodes, their names and string constants.
unfoldable pub query_bytes : List Node → Bytes
query_bytes l = two_bytes (length l) ++ (padded 5120 (slots_from 0 l) ++ padded 24672 (strings l))

-- The form of a core query.
unfoldable pub query_of : Core → Bytes
query_of c = query_bytes (post c)

-- The rules for names and constants.
abbrev pub is_constant : Constant → Bool
is_constant (scalar k n) = in_range k n
is_constant (string s) = is_value s

unfoldable pub is_node : Node → Bool
is_node Node.conjunction = true
is_node Node.disjunction = true
is_node (Node.category x) = is_composed_name x
is_node (Node.namespace x) = is_composed_namespace x
is_node (Node.existence x) = is_composed_property_name x
is_node (Node.subquery x) = is_composed_property_name x
is_node (Node.article c x) = is_composed_name x
is_node (Node.value x c v) = is_composed_property_name x && is_constant v
is_node (Node.link x c r) = is_composed_property_name x && is_composed_reference r

-- "1 to 256 nodes", whose names and constants keep the rules.
unfoldable pub is_core : Core → Bool
is_core c = leb 1 (nodes c) && leb (nodes c) 256 && all is_node (post c)
