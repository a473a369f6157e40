-- Working definitions: a declared node as a slot, the strings that it takes along, and a buffer that nodes are laid into.
use Rattle.std.specs.Prelude.{Option, Some, None, ℕ, ◌+◌, ◌/◌, ◌%◌, ◌≤◌, min, ◌≡◌, Bool, true, false, List, [], ◌∷◌, ◌++◌, leb, length}
use Rattle.text.specs.Bytes.{Bytes}
use Rattle.text.specs.declared.Span.{Span}
use Rattle.buffer.specs.Numbers.{zeros, padded}
use Rattle.language.specs.Comparators.{comparator_code as surface_code}
use Rattle.query_core.specs.declared.Constant.{Constant}
use Rattle.query_core.specs.declared.Selector.{Selector}
use Rattle.query_core.specs.declared.Connective.{Connective}
use Rattle.query_core.specs.declared.Node.{Node}
use Rattle.query_core.specs.declared.Slot.{Slot}
use Rattle.query_core.specs.declared.Strings.{Strings}
use Rattle.query_core.specs.declared.Place.{Place}
use Rattle.query_core.specs.Postfix as Postfix
use Rattle.query_core.specs.Held.{query_size}
use Rattle.query_core.specs.Form.{strings, comparator_code, span_at, no_span, tagged, scalar_slot, string_slot, mark_of, link_slot, slots_from, query_bytes}
use Rattle.query_core.specs.Reading.{node_over}

-- Where the strings of a declared node lie. Only a link has a third.
abbrev pub strings_of : Span → Span → Span → Strings
strings_of p q t = record { first = p; second = q; third = t }

abbrev pub constant_strings : Span → Constant → Strings
constant_strings p (Constant.Scalar k n) = strings_of p no_span no_span
constant_strings p (Constant.String q) = strings_of p q no_span

-- The namespace that a reference writes.
abbrev pub written_in : Option Span → Span
written_in None = no_span
written_in (Some n) = n

-- The byte that tells of it in a slot, where it has n bytes.
abbrev pub mark_if : Option Span → ℕ → ℕ
mark_if None n = 0
mark_if (Some p) n = mark_of n

abbrev pub selector_strings : Selector → Strings
selector_strings (Selector.Category p) = strings_of p no_span no_span
selector_strings (Selector.Namespace p) = strings_of p no_span no_span
selector_strings (Selector.Existence p) = strings_of p no_span no_span
selector_strings (Selector.Subquery p) = strings_of p no_span no_span
selector_strings (Selector.Article c p) = strings_of no_span p no_span
selector_strings (Selector.Value p c k) = constant_strings p k
selector_strings (Selector.Link p c r) = strings_of p (written_in r.namespace) r.article

abbrev pub joined_strings : Connective → Selector → Strings
joined_strings Connective.And x = strings_of no_span no_span no_span
joined_strings Connective.Or x = strings_of no_span no_span no_span
joined_strings Connective.Select x = selector_strings x

abbrev pub node_strings : Node → Strings
node_strings n = joined_strings n.connective n.selector

-- The slot of a declared node whose strings lie at p, q and t in the heap, one behind the other.
abbrev pub constant_slot : ℕ → Constant → Span → Span → Slot
constant_slot c (Constant.Scalar k n) p q = scalar_slot p c k n
constant_slot c (Constant.String r) p q = string_slot p c q

abbrev pub selector_slot : Selector → Span → Span → Span → Slot
selector_slot (Selector.Category r) p q t = tagged 2 0 p no_span
selector_slot (Selector.Namespace r) p q t = tagged 3 0 p no_span
selector_slot (Selector.Existence r) p q t = tagged 4 0 p no_span
selector_slot (Selector.Subquery r) p q t = tagged 5 0 p no_span
selector_slot (Selector.Article c r) p q t = tagged 6 (comparator_code c) no_span q
selector_slot (Selector.Value r c k) p q t = constant_slot (comparator_code c) k p q
selector_slot (Selector.Link r c s) p q t = link_slot (surface_code c) (mark_if s.namespace q.len) (span_at p.start (p.len + q.len)) t

abbrev pub joined_slot : Connective → Selector → Span → Span → Span → Slot
joined_slot Connective.And x p q t = tagged 0 0 no_span no_span
joined_slot Connective.Or x p q t = tagged 1 0 no_span no_span
joined_slot Connective.Select x p q t = selector_slot x p q t

abbrev pub slot_of : Node → Span → Span → Span → Slot
slot_of n p q t = joined_slot n.connective n.selector p q t

-- OR or AND as a declared node; its selector does not count.
abbrev pub joint : Bool → Node
joint true = record { connective = Connective.Or; selector = Selector.Category no_span }
joint false = record { connective = Connective.And; selector = Selector.Category no_span }

-- Strings of a, b and c bytes have room in the heap behind others.
unfoldable pub has_room : ℕ → ℕ → ℕ → ℕ → Bool
has_room end a b c = leb (end + a + b + c) 24672

-- Nodes that a held query has room for.
abbrev pub Fits : List Postfix.Node → Type 0
Fits l = (length l ≤ 256) × (length (strings l) ≤ 24672)

-- How many nodes there are before a place, and how many bytes of the heap their strings take.
abbrev pub count_of : Place → ℕ
count_of p = p.code % 512

abbrev pub end_of : Place → ℕ
end_of p = p.code / 512

-- A buffer that nodes were laid into, all but their count, and the place behind them. Where the nodes do not fit it keeps its length.
pub record Laid (h : Bytes) (p : Place) (l : List Postfix.Node) : Type 0 where
  pub long : length h ≡ query_size
  pub count : count_of p ≡ min 257 (length l)
  pub is : Fits l → (h ≡ zeros 2 ++ (padded 5120 (slots_from 0 l) ++ padded 24672 (strings l))) × (end_of p ≡ length (strings l))

-- A node laid behind others, and a declared one of the texts s and t.
unfoldable pub PutsNode : Postfix.Node → Bytes → Place → Bytes → Place → Type 0
PutsNode m h p h' p' = (l : List Postfix.Node) → Laid h p l → Laid h' p' (l ++ (m ∷ []))

unfoldable pub Puts : Bytes → Bytes → Node → Bytes → Place → Bytes → Place → Type 0
Puts s t x h p h' p' = PutsNode (node_over s t x) h p h' p'

-- The count before them.
unfoldable pub Finishes : Bytes → Place → Bytes → Type 0
Finishes h p h' = (l : List Postfix.Node) → Laid h p l → Fits l → h' ≡ query_bytes l
