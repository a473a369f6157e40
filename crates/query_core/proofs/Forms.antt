-- A core query that keeps its rules is held by its form.
use Rattle.std.specs.Prelude.{Some}
use Prim.Native.Nat.{ℕ, zero, suc, ◌+◌, ◌-◌, ◌*◌, ◌%◌, ◌≤◌, ◌<◌, ◌^◌}
use mathlib.Core.Path.{◌≡◌, refl, sym, ap, subst, ◌∙◌}
use mathlib.Core.Bool.{true, ◌&&◌}
use mathlib.Core.List.{List, [], ◌∷◌, ◌++◌, append_assoc}
use native.Mathlib.Nat.{add-zero, mod-eq_of_lt}
use native.Mathlib.Omega.{arith}
use lib.ListN.{length, get_or, take, drop, length-append}
use lib.Seq.{split_at, take-suc, take-length, length-take-le}
use borrow.Author.Tests.{lt-ltb}
use Rattle.text.specs.Bytes.{Bytes, part, all}
use Rattle.text.proofs.Laws.{all_at}
use Rattle.buffer.specs.Numbers.{two_bytes, padded}
use Rattle.buffer.proofs.Numbers.{two_there}
use Rattle.buffer.proofs.Parts.{part_before}
use Rattle.buffer.proofs.Joined.{part_middle, part_first, part_second}
use Rattle.buffer.proofs.Regions.{length_padded, part_region}
use Rattle.names.specs.Names.{is_composed_name, is_composed_namespace, is_composed_property_name}
use Rattle.values.specs.Names.{bare, qualified, is_composed_reference}
use Rattle.values.specs.Values.{Constant, scalar, string, kind_code, kind_count}
use Rattle.values.specs.declared.Kind.{Kind}
use Rattle.values.proofs.AllKinds.{range_small}
use Rattle.values.proofs.EachKind.{kind_coded, code_below}
use Rattle.names.proofs.Composed.{composed_named}
use Rattle.language.specs.Core.{Core, nodes}
use Rattle.language.specs.Comparators.{comparator_code as surface_code}
use Rattle.language.specs.declared.Comparator.{Comparator}
use Rattle.language.specs.declared.SurfaceComparator.{SurfaceComparator}
use Rattle.language.proofs.EachComparator.{comparator_coded, comparator_few}
use Rattle.language.proofs.Members.{and_true}
use Rattle.query_core.specs.declared.Slot.{Slot}
use Rattle.query_core.specs.Postfix.{Node, post}
use Rattle.query_core.specs.Held.{query_size, count_in, slot, heap_in, slot_from, comparator_from, constant_of_kind, constant_from, constant_of, node_from, surface_from, link_from, link_by, node_of, slot_in, node_in, nodes_to, held_query}
use Rattle.query_core.specs.Form.{constant_string, string_of, strings, comparator_code, span_at, value_slot, slot_at, slot_bytes, slots_from, query_bytes, query_of, is_constant, is_node, is_core}
use Rattle.query_core.specs.Writing.{Fits}
use Rattle.query_core.proofs.Postfix.{length_post}
use Rattle.query_core.proofs.Slots.{Short, slot_back}
use Rattle.query_core.proofs.Laying.{strings_append, slots_append, length_slot, length_slots}
use Rattle.query_core.proofs.Counts.{property_short, namespace_short, constant_short, reference_short, core_kept}
use Rattle.query_core.proofs.Stacks.{holds_held, stack_post}

-- The numbers of a node's slot fit its bytes.
pub record Fitting (x : Slot) : Type 0 where
  pub first : Short x.first
  pub second : Short x.second
  pub number : x.number < 2 ^ 64

module _ (at : ℕ) (low : at ≤ 24672) where
  one_fits : (n : ℕ) → n ≤ 64 → Short (span_at at n)
  one_fits n l = (omega arith, omega arith)

  value_fits : (x : Bytes) (c : Comparator) (v : Constant) → length x ≤ 64 → is_constant v ≡ true → Fitting (value_slot at x c v)
  value_fits x c (scalar k n) l h = record { first = one_fits (length x) l; second = (omega arith, omega arith); number = range_small k n h }
  value_fits x c (string s) l h =
      let k = constant_short (string s) h in
      record { first = one_fits (length x) l; second = (omega (arith, low, l), omega (arith, k)); number = omega arith }

  first_fits : (t n : ℕ) → n ≤ 64 → Fitting (record { tag = t; comparator = 0; kind = 0; first = span_at at n; second = span_at 0 0; number = 0 })
  first_fits t n l = record { first = one_fits n l; second = (omega arith, omega arith); number = omega arith }

  slot_fits : (x : Node) → is_node x ≡ true → Fitting (slot_at at x)
  unfolding is_node
  slot_fits Node.conjunction h = record { first = (omega arith, omega arith); second = (omega arith, omega arith); number = omega arith }
  slot_fits Node.disjunction h = record { first = (omega arith, omega arith); second = (omega arith, omega arith); number = omega arith }
  slot_fits (Node.category x) h = first_fits 2 (length x) (composed_named x h).short
  slot_fits (Node.namespace x) h = first_fits 3 (length x) (namespace_short x h)
  slot_fits (Node.existence x) h = first_fits 4 (length x) (property_short x h)
  slot_fits (Node.subquery x) h = first_fits 5 (length x) (property_short x h)
  slot_fits (Node.article c x) h = record { first = (omega arith, omega arith); second = one_fits (length x) (composed_named x h).short; number = omega arith }
  slot_fits (Node.link x c r) h =
      let k = and_true (is_composed_property_name x) (is_composed_reference r) h in
      let j = reference_short r k.1 in
      let l = property_short x k.0 in
      record { first = (omega (arith, low), omega (arith, l, j.0)); second = (omega (arith, low, l, j.0), omega (arith, j.1)); number = omega arith }
  slot_fits (Node.value x c v) h = let k = and_true (is_composed_property_name x) (is_constant v) h in value_fits x c v (property_short x k.0) k.1

-- A node comes back from its slot and its string.
surface_back : (c : SurfaceComparator) → surface_from (surface_code c) ≡ Some c
surface_back c = rw (comparator_few c, comparator_coded c)

code_back : (c : Comparator) → comparator_from (comparator_code c) ≡ Some c
unfolding comparator_from
code_back Comparator.Equal = refl
code_back Comparator.Unequal = refl
code_back Comparator.Greater = refl
code_back Comparator.Less = refl

kind_back : (k : Kind) (n : ℕ) (s : Bytes) → constant_from (kind_code k) n s ≡ constant_of_kind k n s
unfolding constant_from
kind_back k n s = rw (kind_coded k, lt-ltb (kind_code k) kind_count (code_below k))

module _ (s : Bytes) (at : ℕ) where
  constant_back : (x : Bytes) (c : Comparator) (v : Constant) → is_constant v ≡ true → part s (at + length x) (length (constant_string v)) ≡ constant_string v → constant_of s (value_slot at x c v) ≡ Some v
  unfolding constant_of
  constant_back x c (scalar k n) h e = kind_back (Kind.Scalar k) n _ ∙ rw h
  constant_back x c (string y) h e = kind_back Kind.String 0 _ ∙ rw (e, h)

  value_back : (x : Bytes) (c : Comparator) (v : Constant) → is_composed_property_name x ≡ true → part s at (length x) ≡ x → constant_of s (value_slot at x c v) ≡ Some v → node_of s (value_slot at x c v).tag (value_slot at x c v) ≡ Some (Node.value x c v)
  unfolding node_of node_from
  value_back x c (scalar j n) h e k = rw (e, h, code_back c, k)
  value_back x c (string y) h e k = rw (e, h, code_back c, k)

  link_bare : (x : Bytes) (c : SurfaceComparator) (y : Bytes) → is_composed_property_name x && is_composed_name y ≡ true → part s at (length (x ++ [] ++ y)) ≡ x ++ [] ++ y → node_of s 8 (slot_at at (Node.link x c (bare y))) ≡ Some (Node.link x c (bare y))
  unfolding node_of link_by link_from
  link_bare x c y h e =
      let f : part s at (length x + 0) ≡ x = ap (part s at) (add-zero (length x)) ∙ part_first s at x [] (part_first s at (x ++ []) y e) in
      let g : part s (at + length x + 0) (length y) ≡ y = ap (λ (k : ℕ). part s k (length y)) (let z : at + length x + 0 ≡ at + length (x ++ []) = omega (arith, length-append x []) in z) ∙ part_second s at (x ++ []) y e in
      rw (f, g, h, surface_back c)

  link_qualified : (x : Bytes) (c : SurfaceComparator) (n y : Bytes) → length n ≤ 64 → is_composed_property_name x && (is_composed_namespace n && is_composed_name y) ≡ true → part s at (length (x ++ n ++ y)) ≡ x ++ n ++ y
      → node_of s 8 (slot_at at (Node.link x c (qualified n y))) ≡ Some (Node.link x c (qualified n y))
  unfolding node_of link_by link_from
  link_qualified x c n y l h e =
      let m : suc (length n) % 256 ≡ suc (length n) = mod-eq_of_lt (omega arith) in
      let a = part_first s at (x ++ n) y e in
      let k : length x + length n - length n ≡ length x = omega arith in
      let f : part s at (length x + length n - length n) ≡ x = ap (part s at) k ∙ part_first s at x n a in
      let g : part s (at + (length x + length n - length n)) (length n) ≡ n = ap (λ (j : ℕ). part s (at + j) (length n)) k ∙ part_second s at x n a in
      let i : part s (at + length x + length n) (length y) ≡ y = ap (λ (j : ℕ). part s j (length y)) (let z : at + length x + length n ≡ at + length (x ++ n) = omega (arith, length-append x n) in z) ∙ part_second s at (x ++ n) y e in
      rw (m, f, g, i, h, surface_back c)

  node_back : (x : Node) → is_node x ≡ true → part s at (length (string_of x)) ≡ string_of x → node_of s (slot_at at x).tag (slot_at at x) ≡ Some x
  unfolding node_of node_from is_node string_of
  node_back Node.conjunction h e = refl
  node_back Node.disjunction h e = refl
  node_back (Node.category x) h e = rw (e, h)
  node_back (Node.namespace x) h e = rw (e, h)
  node_back (Node.existence x) h e = rw (e, h)
  node_back (Node.subquery x) h e = rw (e, h)
  node_back (Node.article c x) h e = rw (e, h, code_back c)
  node_back (Node.link x c (bare y)) h e = link_bare x c y h e
  node_back (Node.link x c (qualified n y)) h e =
      let k = and_true (is_composed_property_name x) (is_composed_namespace n && is_composed_name y) h in
      link_qualified x c n y (namespace_short n (and_true (is_composed_namespace n) (is_composed_name y) k.1).0) h e
  node_back (Node.value x c v) h e =
      let k = and_true (is_composed_property_name x) (is_constant v) h in
      value_back x c v k.0 (part_first s at x (constant_string v) e) (constant_back x c v k.1 (part_second s at x (constant_string v) e))

-- Bytes that hold nodes.
pub record Holding (h : Bytes) (l : List Node) : Type 0 where
  pub count : count_in h ≡ length l
  pub slots : part h 2 5120 ≡ padded 5120 (slots_from 0 l)
  pub heap : heap_in h ≡ padded 24672 (strings l)

-- The slot and the string of a node behind some others.
module _ (h : Bytes) (k : List Node) (x : Node) (m : List Node) (f : Fits (k ++ (x ∷ m))) (d : Holding h (k ++ (x ∷ m))) where
  strings_parts : strings (k ++ (x ∷ m)) ≡ strings k ++ (string_of x ++ strings m)
  unfolding strings
  strings_parts = strings_append k (x ∷ m)

  strings_long : length (strings (k ++ (x ∷ m))) ≡ length (strings k) + length (string_of x) + length (strings m)
  strings_long = omega (arith, ap length strings_parts, length-append (strings k) (string_of x ++ strings m), length-append (string_of x) (strings m))

  slots_parts : slots_from 0 (k ++ (x ∷ m)) ≡ slots_from 0 k ++ (slot_bytes (slot_at (length (strings k)) x) ++ slots_from (length (strings k) + length (string_of x)) m)
  unfolding slots_from
  slots_parts = slots_append 0 k (x ∷ m) ∙ ap (λ (n : ℕ). slots_from 0 k ++ (slot_bytes (slot_at n x) ++ slots_from (n + length (string_of x)) m)) (let z : 0 + length (strings k) ≡ length (strings k) = omega arith in z)

  slot_there : part h (slot (length k)) 20 ≡ slot_bytes (slot_at (length (strings k)) x)
  slot_there =
      let long = length_slots 0 (k ++ (x ∷ m)) in
      part_region h 2 5120 (slots_from 0 (k ++ (x ∷ m))) d.slots (omega (arith, long, f.0)) (20 * length k) 20 (omega (arith, long, length-append k (x ∷ m)))
      ∙ ap (λ (r : Bytes). part r (20 * length k) 20) slots_parts
      ∙ part_middle (slots_from 0 k) (slot_bytes (slot_at (length (strings k)) x)) (slots_from (length (strings k) + length (string_of x)) m) (20 * length k) 20 (length_slots 0 k) (length_slot (slot_at (length (strings k)) x))

  string_there : part (heap_in h) (length (strings k)) (length (string_of x)) ≡ string_of x
  unfolding padded
  string_there =
      ap (λ (r : Bytes). part r (length (strings k)) (length (string_of x))) d.heap
      ∙ part_before (strings (k ++ (x ∷ m))) _ (length (strings k)) (length (string_of x)) (omega (arith, strings_long))
      ∙ ap (λ (r : Bytes). part r (length (strings k)) (length (string_of x))) strings_parts
      ∙ part_middle (strings k) (string_of x) (strings m) (length (strings k)) (length (string_of x)) refl refl

  pub node_there : is_node x ≡ true → node_in h (length k) ≡ Some x
  unfolding node_in
  node_there g =
      let fits = slot_fits (length (strings k)) (omega (arith, strings_long, f.1)) x g in
      let is : slot_in h (length k) ≡ slot_at (length (strings k)) x = ap slot_from slot_there ∙ slot_back (slot_at (length (strings k)) x) fits.first fits.second fits.number in
      ap (λ (y : Slot). node_of (heap_in h) y.tag y) is ∙ node_back (heap_in h) (length (strings k)) x g string_there

-- The nodes of bytes that hold them.
pub nodes_there : (h : Bytes) (l : List Node) → Fits l → all is_node l ≡ true → Holding h l → (n : ℕ) → n ≤ length l → nodes_to h n ≡ Some (take n l)
unfolding nodes_to
nodes_there h l f g d zero b = refl
nodes_there h l f g d (suc n) b =
    let x = get_or l n Node.conjunction in
    let parts : l ≡ take n l ++ (x ∷ drop (suc n) l) = split_at l n Node.conjunction b in
    let k : length (take n l) ≡ n = length-take-le n l (omega (arith, b)) in
    let there : node_in h n ≡ Some x = ap (node_in h) (sym k) ∙ node_there h (take n l) x (drop (suc n) l) (subst Fits parts f) (subst (Holding h) parts d) (all_at is_node l n Node.conjunction g b) in
    rw (nodes_there h l f g d n (omega arith), there, take-suc l n Node.conjunction b)

-- The bytes of nodes hold them, whatever is behind.
module _ (l : List Node) (f : Fits l) where
  slots_long : length (padded 5120 (slots_from 0 l)) ≡ 5120
  slots_long = length_padded 5120 (slots_from 0 l) (omega (arith, length_slots 0 l, f.0))

  heap_long : length (padded 24672 (strings l)) ≡ 24672
  heap_long = length_padded 24672 (strings l) f.1

  pub length_bytes : length (query_bytes l) ≡ query_size
  unfolding query_bytes
  length_bytes = omega (arith, length-append (padded 5120 (slots_from 0 l)) (padded 24672 (strings l)), slots_long, heap_long)

  pub bytes_hold : (r : Bytes) → Holding (query_bytes l ++ r) l
  unfolding query_bytes
  bytes_hold r =
      let slots = padded 5120 (slots_from 0 l) in
      let heap = padded 24672 (strings l) in
      let parts : query_bytes l ++ r ≡ two_bytes (length l) ++ (slots ++ (heap ++ r)) = ap (λ (t : Bytes). two_bytes (length l) ++ t) (append_assoc slots heap r) in
      let behind : two_bytes (length l) ++ (slots ++ (heap ++ r)) ≡ (two_bytes (length l) ++ slots) ++ (heap ++ r) = refl in
      record {
        count = two_there (query_bytes l ++ r) 0 (length l) (omega (arith, f.0)) refl;
        slots = ap (λ (t : Bytes). part t 2 5120) parts ∙ part_middle (two_bytes (length l)) slots (heap ++ r) 2 5120 refl slots_long;
        heap = ap (λ (t : Bytes). part t 5122 24672) (parts ∙ behind) ∙ part_middle (two_bytes (length l) ++ slots) heap r 5122 24672 (omega (arith, slots_long)) heap_long;
      }

-- The form of a core query holds it, and has the size of a held query.
pub length_query : (c : Core) → is_core c ≡ true → length (query_of c) ≡ query_size
unfolding query_of
length_query c h = length_bytes (post c) (core_kept c h).fits

pub form_held : (c : Core) (r : Bytes) → is_core c ≡ true → held_query (query_of c ++ r) ≡ Some c
unfolding query_of
form_held c r h =
    let k = core_kept c h in
    let d = bytes_hold (post c) k.fits r in
    let n : count_in (query_of c ++ r) ≡ nodes c = d.count ∙ length_post c in
    let there : nodes_to (query_of c ++ r) (count_in (query_of c ++ r)) ≡ Some (post c)
    = ap (nodes_to (query_of c ++ r)) d.count ∙ nodes_there (query_of c ++ r) (post c) k.fits k.rules d (length (post c)) (omega arith) ∙ ap Some (take-length (post c)) in
    holds_held (query_of c ++ r) c
    (record {
      long = omega (arith, length-append (query_of c) r, length_query c h);
      some_node = omega (arith, n, k.some_node);
      few = omega (arith, n, k.few);
      stack = stack_post (query_of c ++ r) (count_in (query_of c ++ r)) c there;
    })
