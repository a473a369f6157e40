-- The held query: 29,794 bytes. Two bytes with the number of nodes (low byte first), 256 nodes of 20 bytes in postfix order, then a
-- heap of 24,672 bytes with their names and string constants. docs/LAYOUT.md has it byte by byte.
use Rattle.std.specs.Prelude.{ℕ, zero, suc, ◌+◌, ◌-◌, ◌*◌, Bool, cond, ◌&&◌, List, [], ◌∷◌, ◌++◌, leb, ltb, eqb, length, get_or, Option, Some, None}
use Rattle.text.specs.Bytes.{Bytes, part}
use Rattle.text.specs.Parts.{part_of}
use Rattle.buffer.specs.Numbers.{two_at, eight_at}
use Rattle.names.specs.Names.{is_composed_name, is_composed_property_name, is_composed_namespace}
use Rattle.text.specs.declared.Span.{Span}
use Rattle.values.specs.Names.{Reference, bare, qualified, is_composed_reference, is_value}
use Rattle.values.specs.Values.{Constant, scalar, string, kind_count, kind_from, in_range}
use Rattle.values.specs.declared.Kind.{Kind}
use Rattle.language.specs.Answer.{◌>>=◌, only_if}
use Rattle.language.specs.Core.{Core}
use Rattle.language.specs.Comparators.{last_comparator, comparator_from as comparator_of}
use Rattle.language.specs.declared.Comparator.{Comparator}
use Rattle.language.specs.declared.SurfaceComparator.{SurfaceComparator}
use Rattle.query_core.specs.declared.Slot.{Slot}
use Rattle.query_core.specs.Postfix.{Node, read_back}

abbrev pub query_size : ℕ
query_size = 29794

-- The number of nodes, and the names and string constants that are held.
abbrev pub count_in : Bytes → ℕ
count_in h = two_at h 0

abbrev pub slot : ℕ → ℕ
slot i = 2 + 20 * i

abbrev pub heap_in : Bytes → Bytes
heap_in h = part h 5122 24672

-- The numbers in a node's 20 bytes: the tag, the comparator, the constant's kind, start and length of two strings within the heap,
-- a scalar's code. Byte 3 is not read.
unfoldable pub slot_from : Bytes → Slot
slot_from b =
    record {
      tag = get_or b 0 0;
      comparator = get_or b 1 0;
      kind = get_or b 2 0;
      first = record { start = two_at b 4; len = two_at b 6 };
      second = record { start = two_at b 8; len = two_at b 10 };
      number = eight_at b 12;
    }

unfoldable pub comparator_from : ℕ → Option Comparator
comparator_from c =
    cond (eqb c 0) (Some Comparator.Equal)
    (cond (eqb c 1) (Some Comparator.Unequal)
    (cond (eqb c 2) (Some Comparator.Greater)
    (cond (eqb c 3) (Some Comparator.Less) None)))

-- The constant of a kind: a scalar by its code, or a string, the slot's second one. A page value is no constant.
abbrev pub constant_of_kind : Kind → ℕ → Bytes → Option Constant
constant_of_kind Kind.Page n s = None
constant_of_kind (Kind.Scalar k) n s = only_if (in_range k n) (Some (scalar k n))
constant_of_kind Kind.String n s = only_if (is_value s) (Some (string s))

-- A constant by its kind's byte; from kind_count on no byte is a kind's.
unfoldable pub constant_from : ℕ → ℕ → Bytes → Option Constant
constant_from b n s = only_if (ltb b kind_count) (constant_of_kind (kind_from b) n s)

-- A node by its tag; its names and constants keep their rules.
unfoldable pub node_from : ℕ → ℕ → Option Constant → Bytes → Bytes → Option Node
node_from tag c v x y =
    cond (eqb tag 0) (Some Node.conjunction)
    (cond (eqb tag 1) (Some Node.disjunction)
    (cond (eqb tag 2) (only_if (is_composed_name x) (Some (Node.category x)))
    (cond (eqb tag 3) (only_if (is_composed_namespace x) (Some (Node.namespace x)))
    (cond (eqb tag 4) (only_if (is_composed_property_name x) (Some (Node.existence x)))
    (cond (eqb tag 5) (only_if (is_composed_property_name x) (Some (Node.subquery x)))
    (cond (eqb tag 6) (only_if (is_composed_name y) (comparator_from c >>= λ d. Some (Node.article d y)))
    (cond (eqb tag 7) (only_if (is_composed_property_name x) (comparator_from c >>= λ d. v >>= λ w. Some (Node.value x d w))) None)))))))

-- The constant of a slot, and the node that it is by a tag; their strings lie in s.
unfoldable pub constant_of : Bytes → Slot → Option Constant
constant_of s x = constant_from x.kind x.number (part_of s x.second)

-- A link, a slot of tag 8: its comparator is one of the six as written; a namespace stands behind the property's name.
abbrev pub surface_from : ℕ → Option SurfaceComparator
surface_from c = only_if (leb c last_comparator) (Some (comparator_of c))

-- Where a namespace of n bytes stands at the end of a place, and what is before it.
abbrev pub before : ℕ → Span → Span
before n p = record { start = p.start; len = p.len - n }

abbrev pub behind : ℕ → Span → Span
behind n p = record { start = p.start + (p.len - n); len = n }

unfoldable pub link_from : ℕ → Bytes → Reference → Option Node
link_from c x r = only_if (is_composed_property_name x && is_composed_reference r) (surface_from c >>= λ d. Some (Node.link x d r))

unfoldable pub link_by : Bytes → ℕ → Slot → Option Node
link_by s zero x = link_from x.comparator (part_of s x.first) (bare (part_of s x.second))
link_by s (suc n) x = link_from x.comparator (part_of s (before n x.first)) (qualified (part_of s (behind n x.first)) (part_of s x.second))

unfoldable pub node_of : Bytes → ℕ → Slot → Option Node
node_of s tag x = cond (eqb tag 8) (link_by s x.kind x) (node_from tag x.comparator (constant_of s x) (part_of s x.first) (part_of s x.second))

-- The slot in place i, and its node.
abbrev pub slot_in : Bytes → ℕ → Slot
slot_in h i = slot_from (part h (slot i) 20)

unfoldable pub node_in : Bytes → ℕ → Option Node
node_in h i = node_of (heap_in h) (slot_in h i).tag (slot_in h i)

-- The first n nodes, if each is one.
unfoldable pub nodes_to : Bytes → ℕ → Option (List Node)
nodes_to h zero = Some []
nodes_to h (suc n) = nodes_to h n >>= λ l. node_in h n >>= λ m. Some (l ++ (m ∷ []))

-- The core query that bytes hold, if they are the form of one of 1 to 256 nodes.
abbrev pub has_sizes : Bytes → Bool
has_sizes h = leb query_size (length h) && leb 1 (count_in h) && leb (count_in h) 256

unfoldable pub held_query : Bytes → Option Core
held_query h = only_if (has_sizes h) (nodes_to h (count_in h) >>= read_back)
