-- Laws of nodes laid into a buffer: one more behind others, and the count before them.
use Rattle.std.specs.Prelude.{Option, Some, None}
use Prim.Native.Nat.{ℕ, ◌+◌, ◌-◌, ◌*◌, ◌≤◌, ◌<◌}
use mathlib.Core.Path.{◌≡◌, refl, sym, ap, ap₂, ◌∙◌}
use mathlib.Core.Bool.{Bool, true, false, not}
use mathlib.Core.List.{List, [], ◌∷◌, ◌++◌, append_assoc, append-nil}
use native.Mathlib.Nat.{add-zero}
use native.Mathlib.Omega.{arith}
use lib.Dec.{leb}
use lib.ListN.{length, length-append}
use borrow.Author.Tests.{leb-true, leb-false, le-leb, lt-leb, not-true, not-false}
use Rattle.text.specs.Bytes.{Bytes}
use Rattle.text.specs.Parts.{part_of}
use Rattle.text.specs.declared.Span.{Span}
use Rattle.buffer.specs.Numbers.{two_bytes, zeros, padded}
use Rattle.buffer.specs.Writing.{written}
use Rattle.buffer.proofs.Regions.{length_zeros, length_padded}
use Rattle.buffer.proofs.Written.{length_written, written_none, written_here, written_skip, written_over, next}
use Rattle.buffer.proofs.Padding.{zeros_add, padded_more}
use Rattle.values.specs.Names.{Reference}
use Rattle.values.specs.Answers.{reference_at, split_of}
use Rattle.values.specs.declared.Split.{Split}
use Rattle.language.specs.declared.SurfaceComparator.{SurfaceComparator}
use Rattle.language.specs.Comparators.{comparator_code as surface_code}
use Rattle.language.specs.References.{article_meant}
use Rattle.query_core.specs.declared.Constant.{Constant}
use Rattle.query_core.specs.declared.Selector.{Selector}
use Rattle.query_core.specs.declared.Connective.{Connective}
use Rattle.query_core.specs.declared.Node.{Node as DeclaredNode}
use Rattle.query_core.specs.declared.Slot.{Slot}
use Rattle.query_core.specs.declared.Strings.{Strings}
use Rattle.query_core.specs.declared.Place.{Place}
use Rattle.query_core.specs.Postfix.{Node}
use Rattle.query_core.specs.Held.{query_size}
use Rattle.query_core.specs.Form.{namespace_string, string_of, strings, span_at, no_span, link_slot, slot_at, slot_bytes, slots_from, query_bytes}
use Rattle.query_core.specs.Reading.{joined_over, node_over}
use Rattle.query_core.specs.Writing.{joined_strings, node_strings, joined_slot, slot_of, joint, written_in, mark_if, has_room, Fits, Laid, PutsNode, Puts, Finishes, count_of, end_of}

-- Strings and slots of one more node.
pub strings_append : (k l : List Node) → strings (k ++ l) ≡ strings k ++ strings l
unfolding strings
strings_append [] l = refl
strings_append (x ∷ k) l = ap (λ (r : Bytes). string_of x ++ r) (strings_append k l) ∙ sym (append_assoc (string_of x) (strings k) (strings l))

pub slots_append : (at : ℕ) (k l : List Node) → slots_from at (k ++ l) ≡ slots_from at k ++ slots_from (at + length (strings k)) l
unfolding slots_from strings
slots_append at [] l = ap (λ (n : ℕ). slots_from n l) (sym (add-zero at))
slots_append at (x ∷ k) l =
    let place : at + length (string_of x) + length (strings k) ≡ at + length (string_of x ++ strings k) = omega (arith, length-append (string_of x) (strings k)) in
    ap (λ (r : Bytes). slot_bytes (slot_at at x) ++ r) (slots_append (at + length (string_of x)) k l ∙ ap (λ (n : ℕ). slots_from (at + length (string_of x)) k ++ slots_from n l) place)
    ∙ sym (append_assoc (slot_bytes (slot_at at x)) (slots_from (at + length (string_of x)) k) (slots_from (at + length (string_of x ++ strings k)) l))

pub length_slot : (x : Slot) → length (slot_bytes x) ≡ 20
unfolding slot_bytes
length_slot x = refl

pub length_slots : (at : ℕ) (l : List Node) → length (slots_from at l) ≡ 20 * length l
unfolding slots_from
length_slots at [] = refl
length_slots at (x ∷ l) = omega (arith, length-append (slot_bytes (slot_at at x)) (slots_from (at + length (string_of x)) l), length_slot (slot_at at x), length_slots (at + length (string_of x)) l)

module _ (l : List Node) (x : Node) where
  pub strings_more : strings (l ++ (x ∷ [])) ≡ strings l ++ string_of x
  unfolding strings
  strings_more = strings_append l (x ∷ []) ∙ ap (λ (r : Bytes). strings l ++ r) (append-nil (string_of x))

  pub slots_more : slots_from 0 (l ++ (x ∷ [])) ≡ slots_from 0 l ++ slot_bytes (slot_at (length (strings l)) x)
  unfolding slots_from
  slots_more =
      let place : 0 + length (strings l) ≡ length (strings l) = omega arith in
      slots_append 0 l (x ∷ []) ∙ ap (λ (r : Bytes). slots_from 0 l ++ r) (append-nil (slot_bytes (slot_at (0 + length (strings l)) x)) ∙ ap (λ (n : ℕ). slot_bytes (slot_at n x)) place)

-- Strings written one behind the other.
pub strings_written : (h : Bytes) (at : ℕ) (a b c h1 h2 h3 : Bytes) → h1 ≡ written h at a → h2 ≡ written h1 (at + length a) b → h3 ≡ written h2 (at + length a + length b) c → h3 ≡ written h at (a ++ b ++ c)
strings_written h at a b c h1 h2 h3 e f g = next h at (a ++ b) c (next h at a b e f) (g ∙ ap (λ (n : ℕ). written h2 n c) (let k : at + length a + length b ≡ at + length (a ++ b) = omega (arith, length-append a b) in k))

-- The strings and the slot of a link whose reference lies in a text of its own.
module _ (s : Bytes) (p : Span) (t : Bytes) (r : Split) where
  abbrev reference_if : Option Span → Reference
  reference_if o = reference_at t o r.article

  abbrev written_if : Option Span → Bytes
  written_if o = part_of t (written_in o)

  link_strings : part_of s p ++ part_of t (written_in r.namespace) ++ part_of t r.article ≡ part_of s p ++ namespace_string (split_of t r) ++ article_meant (split_of t r)
  link_strings = go r.namespace
    where
      go : (o : Option Span) → part_of s p ++ written_if o ++ part_of t r.article ≡ part_of s p ++ namespace_string (reference_if o) ++ article_meant (reference_if o)
      go None = refl
      go (Some n) = refl

  link_slots : (c : SurfaceComparator) (at : ℕ)
      → link_slot (surface_code c) (mark_if r.namespace (length (part_of t (written_in r.namespace)))) (span_at at (length (part_of s p) + length (part_of t (written_in r.namespace)))) (span_at (at + length (part_of s p) + length (part_of t (written_in r.namespace))) (length (part_of t r.article)))
      ≡ slot_at at (Node.link (part_of s p) c (split_of t r))
  link_slots c at = go r.namespace
    where
      go : (o : Option Span) → link_slot (surface_code c) (mark_if o (length (written_if o))) (span_at at (length (part_of s p) + length (written_if o))) (span_at (at + length (part_of s p) + length (written_if o)) (length (part_of t r.article)))
          ≡ slot_at at (Node.link (part_of s p) c (reference_if o))
      go None = refl
      go (Some n) = refl

-- The strings and the slot of a declared node are those of the node that it is.
module _ (s t : Bytes) where
  abbrev both : Strings → Bytes
  both r = part_of s r.first ++ part_of t r.second ++ part_of t r.third

  alone : (t : Bytes) → t ++ [] ++ [] ≡ t
  alone t = append-nil (t ++ []) ∙ append-nil t

  strings_joined : (c : Connective) (y : Selector) → both (joined_strings c y) ≡ string_of (joined_over s t c y)
  unfolding string_of
  strings_joined Connective.And y = refl
  strings_joined Connective.Or y = refl
  strings_joined Connective.Select (Selector.Category p) = alone (part_of s p)
  strings_joined Connective.Select (Selector.Namespace p) = alone (part_of s p)
  strings_joined Connective.Select (Selector.Existence p) = alone (part_of s p)
  strings_joined Connective.Select (Selector.Subquery p) = alone (part_of s p)
  strings_joined Connective.Select (Selector.Article c p) = append-nil (part_of t p)
  strings_joined Connective.Select (Selector.Value p c (Constant.Scalar k n)) = alone (part_of s p) ∙ sym (append-nil (part_of s p))
  strings_joined Connective.Select (Selector.Value p c (Constant.String q)) = append-nil (part_of s p ++ part_of t q)
  strings_joined Connective.Select (Selector.Link p c r) = link_strings s p t r

  -- the strings lie at the place, one behind the other
  abbrev first_at : ℕ → Strings → Span
  first_at at r = span_at at (length (part_of s r.first))

  abbrev second_at : ℕ → Strings → Span
  second_at at r = span_at (at + length (part_of s r.first)) (length (part_of t r.second))

  abbrev third_at : ℕ → Strings → Span
  third_at at r = span_at (at + length (part_of s r.first) + length (part_of t r.second)) (length (part_of t r.third))

  slot_joined : (at : ℕ) (c : Connective) (y : Selector) → joined_slot c y (first_at at (joined_strings c y)) (second_at at (joined_strings c y)) (third_at at (joined_strings c y)) ≡ slot_at at (joined_over s t c y)
  slot_joined at Connective.And y = refl
  slot_joined at Connective.Or y = refl
  slot_joined at Connective.Select (Selector.Category p) = refl
  slot_joined at Connective.Select (Selector.Namespace p) = refl
  slot_joined at Connective.Select (Selector.Existence p) = refl
  slot_joined at Connective.Select (Selector.Subquery p) = refl
  slot_joined at Connective.Select (Selector.Article c p) = rw add-zero
  slot_joined at Connective.Select (Selector.Value p c (Constant.Scalar k n)) = refl
  slot_joined at Connective.Select (Selector.Value p c (Constant.String q)) = refl
  slot_joined at Connective.Select (Selector.Link p c r) = link_slots s p t r c at

-- Whether strings have room.
module _ (end a b c : ℕ) where
  full : 24672 < end + a + b + c → false ≡ has_room end a b c
  unfolding has_room
  full l = sym (lt-leb (end + a + b + c) 24672 l)

  pub no_room : 24672 < end → false ≡ has_room end a b c
  no_room l = full (omega arith)

  pub no_first : 24672 - end < a → end ≤ 24672 → false ≡ has_room end a b c
  no_first l k = full (omega arith)

  pub no_second : 24672 - end - a < b → end ≤ 24672 → a ≤ 24672 - end → false ≡ has_room end a b c
  no_second l k m = full (omega arith)

  pub third_fits : end ≤ 24672 → a ≤ 24672 - end → b ≤ 24672 - end - a → leb c (24672 - end - a - b) ≡ has_room end a b c
  unfolding has_room
  third_fits k l m = go (leb c (24672 - end - a - b)) refl
    where
      go : (t : Bool) → leb c (24672 - end - a - b) ≡ t → leb c (24672 - end - a - b) ≡ leb (end + a + b + c) 24672
      go true e = e ∙ sym (le-leb (end + a + b + c) 24672 (let z = leb-true c (24672 - end - a - b) e in omega (arith, z)))
      go false e = e ∙ sym (lt-leb (end + a + b + c) 24672 (let z = leb-false c (24672 - end - a - b) e in omega (arith, z)))

pub ruleset rooms = (no_room, no_first, no_second, third_fits)

module _ (t : Bool) (end a b c : ℕ) (e : t ≡ has_room end a b c) where
  pub room_left : not t ≡ false → end + a + b + c ≤ 24672
  unfolding has_room
  room_left f = leb-true (end + a + b + c) 24672 (sym e ∙ not-false t f)

  pub room_taken : not t ≡ true → 24672 < end + a + b + c
  unfolding has_room
  room_taken f = leb-false (end + a + b + c) 24672 (sym e ∙ not-true t f)

-- Bytes behind what both regions hold.
laid_both : (l s v w : Bytes) (n : ℕ) → length l ≡ n → n + length v ≤ 5120 → length s + length w ≤ 24672
    → written (written (zeros 2 ++ (padded 5120 l ++ padded 24672 s)) (2 + n) v) (5122 + length s) w ≡ zeros 2 ++ (padded 5120 (l ++ v) ++ padded 24672 (s ++ w))
laid_both l s v w n e b r =
    let size = length_padded 5120 l (omega (arith, e, b)) in
    let grown = length_padded 5120 (l ++ v) (omega (arith, e, b, length-append l v)) in
    let place : 5122 + length s ≡ 2 + (5120 + length s) = omega arith in
    let slots : written (padded 5120 l ++ padded 24672 s) n v ≡ padded 5120 (l ++ v) ++ padded 24672 s
    = written_here v (padded 5120 l) (padded 24672 s) n (omega (arith, size, b))
    ∙ ap (λ (k : ℕ). written (padded 5120 l) k v ++ padded 24672 s) (sym e)
    ∙ ap (λ (t : Bytes). t ++ padded 24672 s) (padded_more 5120 l v (omega (arith, e, b))) in
    ap₂ (λ (t : Bytes) (k : ℕ). written t k w) (written_skip (zeros 2) (padded 5120 l ++ padded 24672 s) v 2 n (length_zeros 2) ∙ ap (λ (t : Bytes). zeros 2 ++ t) slots) place
    ∙ written_skip (zeros 2) (padded 5120 (l ++ v) ++ padded 24672 s) w 2 (5120 + length s) (length_zeros 2)
    ∙ ap (λ (t : Bytes). zeros 2 ++ t) (written_skip (padded 5120 (l ++ v)) (padded 24672 s) w 5120 (length s) grown)
    ∙ ap (λ (t : Bytes). zeros 2 ++ (padded 5120 (l ++ v) ++ t)) (padded_more 24672 s w r)

-- The place behind nodes.
abbrev place_at : ℕ → ℕ → Place
place_at n m = record { code = n + 512 * m }

-- What fits with a node more fits without it.
module _ (l : List Node) (m : Node) where
  count_more : length (l ++ (m ∷ [])) ≡ length l + 1
  count_more = length-append l (m ∷ [])

  bytes_more : length (strings (l ++ (m ∷ []))) ≡ length (strings l) + length (string_of m)
  bytes_more = ap length (strings_more l m) ∙ length-append (strings l) (string_of m)

  fits_less : Fits (l ++ (m ∷ [])) → Fits l
  fits_less f = (omega (arith, f.0, count_more), omega (arith, f.1, bytes_more))

-- A node laid behind others: into no buffer of a held query, too many, no room for its strings, laid.
module _ (m : Node) (h : Bytes) (p : Place) where
  pub node_short : length h < 29794 → PutsNode m h p h p
  unfolding PutsNode
  node_short o l d = absurd (omega (arith, o, d.long))

  pub node_full : 256 ≤ count_of p → PutsNode m h p h (record { code = p.code - count_of p + 257 })
  unfolding PutsNode
  node_full b l d =
      record { long = d.long; count = omega (arith, d.count, b, count_more l m); is = λ f. absurd (omega (arith, d.count, b, count_more l m, f.0)) }

  module _ (few : count_of p < 256) (a b c : Bytes) (string : string_of m ≡ a ++ b ++ c) where
    string_long : length (string_of m) ≡ length a + length b + length c
    string_long = omega (arith, ap length string, length-append (a ++ b) c, length-append a b)

    node_nothing : 24672 < end_of p + length a + length b + length c → PutsNode m h p h (record { code = p.code + 1 })
    unfolding PutsNode
    node_nothing o l d =
        record {
          long = d.long;
          count = omega (arith, d.count, few, count_more l m);
          is = λ k. absurd (omega (arith, o, (d.is (fits_less l m k)).1, bytes_more l m, string_long, k.1));
        }

    node_there : (y : Slot) (h1 h2 : Bytes) → y ≡ slot_at (end_of p) m → h1 ≡ written h (2 + 20 * count_of p) (slot_bytes y) → h2 ≡ written h1 (5122 + end_of p) (a ++ b ++ c)
        → PutsNode m h p h2 (place_at (count_of p + 1) (end_of p + length a + length b + length c))
    unfolding PutsNode
    node_there y h1 h2 is-slot i laid l d =
        record {
          long = ap length laid ∙ length_written h1 (5122 + end_of p) (a ++ b ++ c) ∙ ap length i ∙ length_written h (2 + 20 * count_of p) (slot_bytes y) ∙ d.long;
          count = omega (arith, d.count, few, count_more l m);
          is = λ t. (there t, omega (arith, (d.is (fits_less l m t)).1, bytes_more l m, string_long));
        }
      where
        there : Fits (l ++ (m ∷ [])) → h2 ≡ zeros 2 ++ (padded 5120 (slots_from 0 (l ++ (m ∷ []))) ++ padded 24672 (strings (l ++ (m ∷ []))))
        there t =
            let u = d.is (fits_less l m t) in
            let n : length (slots_from 0 l) ≡ 20 * count_of p = omega (arith, length_slots 0 l, d.count, few) in
            laid
            ∙ ap (λ (z : Bytes). written z (5122 + end_of p) (a ++ b ++ c)) (i ∙ ap (λ (z : Bytes). written z (2 + 20 * count_of p) (slot_bytes y)) u.0)
            ∙ ap (λ (z : ℕ). written (written (zeros 2 ++ (padded 5120 (slots_from 0 l) ++ padded 24672 (strings l))) (2 + 20 * count_of p) (slot_bytes y)) (5122 + z) (a ++ b ++ c)) u.1
            ∙ laid_both (slots_from 0 l) (strings l) (slot_bytes y) (a ++ b ++ c) (20 * count_of p) n (omega (arith, few, length_slot y)) (omega (arith, bytes_more l m, string_long, length-append (a ++ b) c, length-append a b, t.1))
            ∙ ap₂ (λ (w v : Bytes). zeros 2 ++ (padded 5120 w ++ padded 24672 v))
            (ap (λ (k : Slot). slots_from 0 l ++ slot_bytes k) is-slot ∙ ap (λ (z : ℕ). slots_from 0 l ++ slot_bytes (slot_at z m)) u.1 ∙ sym (slots_more l m))
            (ap (λ (z : Bytes). strings l ++ z) (sym string) ∙ sym (strings_more l m))

-- A declared node.
module _ (s t : Bytes) (x : DeclaredNode) (h : Bytes) (p : Place) (few : count_of p < 256) (r : Strings) (e : r ≡ node_strings x) (a b c : Bytes) (f : a ≡ part_of s r.first) (g : b ≡ part_of t r.second) (q : c ≡ part_of t r.third) where
  string_is : string_of (node_over s t x) ≡ a ++ b ++ c
  string_is = sym (rw (f, g, q, e) (strings_joined s t x.connective x.selector))

  pub put_nothing : 24672 < end_of p + length a + length b + length c → PutsNode (node_over s t x) h p h (record { code = p.code + 1 })
  put_nothing = node_nothing (node_over s t x) h p few a b c string_is

  pub put_there : (y : Slot) (h1 h2 : Bytes)
      → y ≡ slot_of x (span_at (end_of p) (length a)) (span_at (end_of p + length a) (length b)) (span_at (end_of p + length a + length b) (length c))
      → h1 ≡ written h (2 + 20 * count_of p) (slot_bytes y)
      → h2 ≡ written h1 (5122 + end_of p) (a ++ b ++ c)
      → PutsNode (node_over s t x) h p h2 (place_at (count_of p + 1) (end_of p + length a + length b + length c))
  put_there y h1 h2 w = node_there (node_over s t x) h p few a b c string_is y h1 h2 (w ∙ rw (f, g, q, e) (slot_joined s t (end_of p) x.connective x.selector))

-- AND or OR, laid: it has no strings.
module _ (h : Bytes) (p : Place) (few : count_of p < 256) (y : Slot) (h1 : Bytes) (i : h1 ≡ written h (2 + 20 * count_of p) (slot_bytes y)) where
  same_place : place_at (count_of p + 1) (end_of p + 0 + 0 + 0) ≡ record { code = p.code + 1 }
  same_place = let e : count_of p + 1 + 512 * (end_of p + 0 + 0 + 0) ≡ p.code + 1 = omega arith in rw e

  pub put_joint : (or : Bool) → y ≡ slot_of (joint or) no_span no_span no_span → Puts [] [] (joint or) h p h1 (record { code = p.code + 1 })
  unfolding Puts
  put_joint true w = rw same_place at (put_there [] [] (joint true) h p few (node_strings (joint true)) refl [] [] [] refl refl refl y h1 h1 w i (sym (written_none h1 _)))
  put_joint false w = rw same_place at (put_there [] [] (joint false) h p few (node_strings (joint false)) refl [] [] [] refl refl refl y h1 h1 w i (sym (written_none h1 _)))

-- The count before the nodes.
pub put_count : (h h' : Bytes) (p : Place) → h' ≡ written h 0 (two_bytes (count_of p)) → Finishes h p h'
unfolding Finishes query_bytes
put_count h h' p e l d f =
    let n : count_of p ≡ length l = omega (arith, d.count, f.0) in
    let rest = padded 5120 (slots_from 0 l) ++ padded 24672 (strings l) in
    e
    ∙ ap₂ (λ (t : Bytes) (k : ℕ). written t 0 (two_bytes k)) (d.is f).0 n
    ∙ written_here (two_bytes (length l)) (zeros 2) rest 0 (omega (arith, length_zeros 2))
    ∙ ap (λ (t : Bytes). t ++ rest) (written_over (two_bytes (length l)) (zeros 2) (length_zeros 2))

-- Nothing is laid into a cleared buffer.
pub count_put : (h h' : Bytes) (p : Place) (n : ℕ) → n ≡ count_of p → h' ≡ written h 0 (two_bytes n) → Finishes h p h'
count_put h h' p n e w = put_count h h' p (w ∙ ap (λ (k : ℕ). written h 0 (two_bytes k)) e)

pub laid_none : Laid (zeros query_size) (place_at 0 0) []
unfolding slots_from strings padded
laid_none =
    record {
      long = length_zeros query_size;
      count = refl;
      is = λ f. (zeros_add 2 29792 ∙ ap (λ (t : Bytes). zeros 2 ++ t) (zeros_add 5120 24672), refl);
    }

pub laid_clear : (h h' : Bytes) → length h ≡ query_size → h' ≡ written h 0 (zeros query_size) → Laid h' (place_at 0 0) []
laid_clear h h' e f =
    let w : h' ≡ zeros query_size = f ∙ written_over (zeros query_size) h (e ∙ sym (length_zeros query_size)) in
    rw w laid_none

-- One node more, and the count, where a call has laid or written them.
pub laid_more : (s t : Bytes) (x : DeclaredNode) (h : Bytes) (p : Place) (h' : Bytes) (p' : Place) (l : List Node) → Puts s t x h p h' p' → Laid h p l → Laid h' p' (l ++ (node_over s t x ∷ []))
unfolding Puts PutsNode
laid_more s t x h p h' p' l f d = f l d

pub laid_done : (h : Bytes) (p : Place) (h' : Bytes) (l : List Node) → Finishes h p h' → Laid h p l → Fits l → h' ≡ query_bytes l
unfolding Finishes
laid_done h p h' l f d k = f l d k
