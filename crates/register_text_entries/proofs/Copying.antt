-- Laws of entries copied with their names composed.
use Prim.Native.Nat.{ℕ, ◌+◌, ◌*◌, ◌%◌, ◌≤◌, ◌<◌}
use mathlib.Core.Path.{◌≡◌, refl, sym, ap, ap₂, subst, ◌∙◌}
use mathlib.Core.Bool.{Bool, true, false, cond, not, ◌&&◌, ◌||◌, false≢true, and-eq-true_iff, or-true, or-false}
use mathlib.Core.List.{List, [], ◌∷◌, ◌++◌, append_assoc}
use native.Mathlib.Omega.{arith}
use lib.ListN.{length, get_or, length-append}
use lib.Seq.{sets}
use lib.Dec.{eqb, ltb}
use borrow.Author.Tests.{ltb-true, ltb-false, not-false}
use Rattle.text.specs.Bytes.{Bytes, bytes, part, all, any}
use Rattle.text.specs.Class.{is_other}
use Rattle.text.proofs.Laws.{any_append}
use Rattle.text.specs.Parts.{part_of}
use Rattle.text.specs.declared.Span.{Span}
use Rattle.text.specs.Table.{tabulate}
use Rattle.text.proofs.Tables.{tabulate_ext}
use Rattle.names.specs.Names.{composed_name, is_name, is_property_name, is_namespace}
use Rattle.names.specs.Steps.{name_length, NamePut}
use Rattle.names.proofs.Composed.{composed_le}
use Rattle.names.proofs.NamePutting.{namespace_length, length_name}
use Rattle.values.specs.Names.{is_value}
use Rattle.values.specs.declared.Kind.{Kind}
use Rattle.buffer.specs.Writing.{written}
use Rattle.buffer.proofs.Joined.{part_first, part_second, part_below, part_there}
use Rattle.buffer.proofs.Written.{length_written, written_none, next}
use Rattle.language.specs.RegisterText.{Entry, breaks_rule, composed_entry, composed_entries}
use Rattle.language.specs.Rules.{total}
use Rattle.register_text_entries.specs.declared.Tag.{Tag}
use Rattle.register_text_entries.specs.declared.Item.{Item}
use Rattle.register_text_entries.specs.Items.{entry_by, entry_in}
use Rattle.register_text_entries.specs.Table.{entry_at, entries_in, row, with_row}
use Rattle.register_text_entries.specs.Composing.{has_first, has_second, has_gap, gap, is_named, name_or, first_part, second_part, item_text, copied_item, broken_by, SecondPut, Copies, room, Composes}
use Rattle.register_text_entries.specs.declared.composing.Copied.{Copied}
use Rattle.register_text_entries.proofs.Cells.{get_d_sets_below, get_d_sets, row_size, row_below, row_there, rows_last}

-- The parts of an entry.
pub gap_size : (t : Tag) → length (gap t) ≤ 3
gap_size t = go (has_gap t)
  where
    go : (b : Bool) → length (cond b (bytes "\" \"") []) ≤ 3
    go true = omega arith
    go false = omega arith

-- An entry has the room that is said.
item_room : (s : Bytes) (x : Item) → length (item_text s x) ≤ room (entry_in s x)
item_room s x = go x.tag
  where
    a : Bytes
    a = part_of s x.first

    b : Bytes
    b = part_of s x.second

    go : (t : Tag) → length (composed_name (cond (has_first t) a []) ++ (gap t ++ name_or t (cond (has_second t) b []))) ≤ room (entry_by t x.kind a b)
    go Tag.Prop = omega (arith, length-append (composed_name a) (bytes "\" \"" ++ []), composed_le a)
    go Tag.Page = omega (arith, length-append (composed_name a) (bytes "\" \"" ++ composed_name b), composed_le a, composed_le b)
    go Tag.Cat = omega (arith, length-append (composed_name a) [], composed_le a)
    go Tag.Val = omega (arith, length-append (composed_name a) b, composed_le a)
    go Tag.Close = omega (arith, length-append (composed_name []) [], composed_le [])

-- It is the entry with its names composed.
item_composed : (s : Bytes) (x : Item) → entry_by x.tag x.kind (first_part s x) (second_part s x) ≡ composed_entry (entry_in s x)
item_composed s x = go x.tag
  where
    a : Bytes
    a = part_of s x.first

    b : Bytes
    b = part_of s x.second

    go : (t : Tag) → entry_by t x.kind (composed_name (cond (has_first t) a [])) (name_or t (cond (has_second t) b [])) ≡ composed_entry (entry_by t x.kind a b)
    go Tag.Prop = refl
    go Tag.Page = refl
    go Tag.Cat = refl
    go Tag.Val = refl
    go Tag.Close = refl

-- An entry that was copied: its row says what it is.
module _ (s : Bytes) (x : Item) (c : Bytes) (at : ℕ) (fits : at + length (item_text s x) ≤ length c) where
  abbrev copy : Bytes
  copy = written c at (item_text s x)

  there : part copy at (length (item_text s x)) ≡ item_text s x
  there = part_there c (item_text s x) at fits

  rest : part copy (at + length (first_part s x)) (length (gap x.tag ++ second_part s x)) ≡ gap x.tag ++ second_part s x
  rest = part_second copy at (first_part s x) (gap x.tag ++ second_part s x) there

  copied_is : entry_in copy (copied_item s x at) ≡ composed_entry (entry_in s x)
  unfolding copied_item
  copied_is =
      ap₂ (entry_by x.tag x.kind) (part_first copy at (first_part s x) (gap x.tag ++ second_part s x) there)
      (part_second copy (at + length (first_part s x)) (gap x.tag) (second_part s x) rest)
      ∙ item_composed s x

-- How long it is.
copied_size : (s : Bytes) (x : Item) → length (item_text s x) ≡ length (first_part s x) + length (gap x.tag) + length (second_part s x)
copied_size s x = omega (arith, length-append (first_part s x) (gap x.tag ++ second_part s x), length-append (gap x.tag) (second_part s x))

-- The ways through the writing of parts.
pub kept_some : (has : Bool) (p : Span) → has ≡ true → (s : Bytes) → part_of s p ≡ cond has (part_of s p) []
kept_some has p e s = rw e

pub kept_none : (has : Bool) (p : Span) → has ≡ false → (s : Bytes) → part s 0 0 ≡ cond has (part_of s p) []
kept_none has p e s = rw e

module _ (t : Tag) (p : Bool) (e : p ≡ has_gap t) where
  pub gap_long : p ≡ true → 3 ≡ length (gap t)
  gap_long h = rw (← e, h)

  pub gap_short : p ≡ false → 0 ≡ length (gap t)
  gap_short h = rw (← e, h)

  module _ (c d : Bytes) (at : ℕ) where
    pub gap_put : p ≡ true → d ≡ written c at (bytes "\" \"") → d ≡ written c at (gap t)
    gap_put h w = rw (← e, h) w

    pub gap_none : p ≡ false → c ≡ written c at (gap t)
    gap_none h = rw (← e, h) (sym (written_none c at))

-- The second part of an entry.
module _ (t : Tag) (p : Bool) (b c d : Bytes) (at : ℕ) (e : p ≡ is_named t) where
  pub named_put : p ≡ true → (n : ℕ) → NamePut b c at d n → SecondPut t b c at d n
  named_put h n w =
      record { size = w.size; named = λ z. w.count; typed = λ z. absurd (false≢true (sym z ∙ sym e ∙ h)); bytes = λ f. let z : is_named t ≡ true = sym e ∙ h in rw z (w.bytes (f z)) }

  pub typed_put : p ≡ false → (to : ℕ) → to ≡ at → d ≡ written c to b → SecondPut t b c at d (length b)
  typed_put h to k w =
      let z : is_named t ≡ false = sym e ∙ h in
      record { size = ap length w ∙ length_written c to b; named = λ y. absurd (false≢true (sym z ∙ y)); typed = λ y. refl; bytes = λ f. rw (z, ← k) w }

-- The ways to whether an entry breaks a rule.
module _ (t : Tag) (n m : ℕ) (a b : Bytes) (r u : Bool) where
  pub broken_prop : t ≡ Tag.Prop → r ≡ all (is_other 46) a → not (ltb 0 n && r) ≡ broken_by t n m a b
  broken_prop e f = rw (e, f)

  pub broken_val : t ≡ Tag.Val → r ≡ all (is_other 46) a → u ≡ is_value b → not (ltb 0 n && r && u) ≡ broken_by t n m a b
  broken_val e f g = rw (e, f, g)

module _ (t : Tag) (n m : ℕ) (a b : Bytes) where
  pub broken_page : t ≡ Tag.Page → not ((eqb (length a) 0 || ltb 0 n) && ltb 0 m) ≡ broken_by t n m a b
  broken_page e = rw e

  pub broken_cat : t ≡ Tag.Cat → not (ltb 0 n) ≡ broken_by t n m a b
  broken_cat e = rw e

pub ruleset broken = (broken_prop, broken_val, broken_page, broken_cat)

-- An entry breaks a rule where its lengths say so.
broken_is : (t : Tag) (k : Kind) (n m : ℕ) (a b : Bytes) → n ≡ name_length (cond (has_first t) a []) → (is_named t ≡ true → m ≡ name_length (cond (has_second t) b []))
    → broken_by t n m (cond (has_first t) a []) (cond (has_second t) b []) ≡ breaks_rule (entry_by t k a b)
unfolding is_property_name is_namespace
broken_is Tag.Prop k n m a b e f = rw (length_name a n e)
broken_is Tag.Page k n m a b e f = rw (length_name a n e, length_name b m (f refl))
broken_is Tag.Cat k n m a b e f = rw (length_name a n e)
broken_is Tag.Val k n m a b e f = rw (length_name a n e)
broken_is Tag.Close k n m a b e f = refl

-- Else its names are names.
name_namespace : (s : Bytes) → is_name s ≡ true → is_namespace s ≡ true
unfolding is_namespace
name_namespace s h = rw h (or-true (eqb (length s) 0))

property_namespace : (s : Bytes) → is_property_name s ≡ true → is_namespace s ≡ true
unfolding is_property_name
property_namespace s h = name_namespace s ((and-eq-true_iff (is_name s) (all (is_other 46) s)).0 h).0

first_named : (t : Tag) (k : Kind) (a b : Bytes) → breaks_rule (entry_by t k a b) ≡ false → is_namespace (cond (has_first t) a []) ≡ true
unfolding is_namespace
first_named Tag.Prop k a b h = property_namespace a (not-false (is_property_name a) h)
first_named Tag.Page k a b h = ((and-eq-true_iff (is_namespace a) (is_name b)).0 (not-false (is_namespace a && is_name b) h)).0
first_named Tag.Cat k a b h = name_namespace a (not-false (is_name a) h)
first_named Tag.Val k a b h = property_namespace a ((and-eq-true_iff (is_property_name a) (is_value b)).0 (not-false (is_property_name a && is_value b) h)).0
first_named Tag.Close k a b h = refl

second_named : (t : Tag) (k : Kind) (a b : Bytes) → breaks_rule (entry_by t k a b) ≡ false → is_named t ≡ true → is_namespace (cond (has_second t) b []) ≡ true
second_named Tag.Prop k a b h z = absurd (false≢true z)
second_named Tag.Page k a b h z = name_namespace b ((and-eq-true_iff (is_namespace a) (is_name b)).0 (not-false (is_namespace a && is_name b) h)).1
second_named Tag.Cat k a b h z = absurd (false≢true z)
second_named Tag.Val k a b h z = absurd (false≢true z)
second_named Tag.Close k a b h z = absurd (false≢true z)

second_size : (t : Tag) (b c : Bytes) (at : ℕ) (d : Bytes) (m : ℕ) → SecondPut t b c at d m → (is_named t ≡ true → is_namespace b ≡ true) → m ≡ length (name_or t b)
second_size t b c at d m w f = go (is_named t) refl
  where
    go : (p : Bool) → is_named t ≡ p → m ≡ length (cond p (composed_name b) b)
    go true e = w.named e ∙ namespace_length b (f e)
    go false e = w.typed e

-- The way through the copying of an entry.
module _
    (s : Bytes) (x : Item) (b b₁ b₂ b₃ : Bytes) (at : ℕ) (hf hs : Bool) (p q : Span) (a d : Bytes) (n n₁ n₂ start g w to begin m m₁ m₂ : ℕ) (z : Bool)
    (first : hf ≡ has_first x.tag) (first_part_lem : (s : Bytes) → part_of s p ≡ cond hf (part_of s x.first) [])
    (second : hs ≡ has_second x.tag) (second_part_lem : (s : Bytes) → part_of s q ≡ cond hs (part_of s x.second) [])
    (a-is : a ≡ part_of s p) (d-is : d ≡ part_of s q) (start_is : start ≡ at)
    (put_first : NamePut a b at b₁ n) (narrow-n : n₁ ≡ n % 65536) (wide-n : n₂ ≡ n₁)
    (put-gap : b₂ ≡ written b₁ (start + n₂) (gap x.tag))
    (g-is : g ≡ length (gap x.tag)) (wide-g : w ≡ g)
    (to_is : to ≡ (start + n₂ + w) % 65536) (begin_is : begin ≡ to)
    (put_second : SecondPut x.tag d b₂ to b₃ m) (narrow-m : m₁ ≡ m % 65536) (wide-m : m₂ ≡ m₁)
    (z-is : z ≡ broken_by x.tag n m a d)
  where
    abbrev A : Bytes
    A = cond (has_first x.tag) (part_of s x.first) []

    abbrev D : Bytes
    D = cond (has_second x.tag) (part_of s x.second) []

    a_part : a ≡ A
    a_part = a-is ∙ first_part_lem s ∙ rw first

    d_part : d ≡ D
    d_part = d-is ∙ second_part_lem s ∙ rw second

    sum : length (item_text s x) ≡ length (first_part s x) + length (gap x.tag) + length (second_part s x)
    sum = omega (arith, length-append (first_part s x) (gap x.tag ++ second_part s x), length-append (gap x.tag) (second_part s x))

    module _ (ok : breaks_rule (entry_in s x) ≡ false) (l : at + length (item_text s x) ≤ 65535) where
      named : is_namespace a ≡ true
      named = rw a_part (first_named x.tag x.kind (part_of s x.first) (part_of s x.second) ok)

      second_is : is_named x.tag ≡ true → is_namespace d ≡ true
      second_is e = rw d_part (second_named x.tag x.kind (part_of s x.first) (part_of s x.second) ok e)

      n_size : n₂ ≡ length (first_part s x)
      n_size = omega (arith, sum, put_first.count ∙ namespace_length a named ∙ ap (λ (y : Bytes). length (composed_name y)) a_part, narrow-n, wide-n)

      m_size : m₂ ≡ length (second_part s x)
      m_size = omega (arith, sum, second_size x.tag d b₂ to b₃ m put_second second_is ∙ ap (λ (y : Bytes). length (name_or x.tag y)) d_part, narrow-m, wide-m)

      begins : to ≡ at + length (first_part s x) + length (gap x.tag)
      begins = omega (arith, sum, to_is, n_size, start_is, wide-g, g-is)

      copied_bytes : b₃ ≡ written b at (item_text s x)
      copied_bytes =
          let f : b₁ ≡ written b at (first_part s x) = put_first.bytes named ∙ ap (λ (y : Bytes). written b at (composed_name y)) a_part in
          let e : b₂ ≡ written b₁ (at + length (first_part s x)) (gap x.tag) = put-gap ∙ ap (λ (y : ℕ). written b₁ y (gap x.tag)) (ap₂ ◌+◌ start_is n_size) in
          let h : b₃ ≡ written b₂ to (second_part s x) = put_second.bytes second_is ∙ ap (λ (y : Bytes). written b₂ to (name_or x.tag y)) d_part in
          let i : b₂ ≡ written b at (first_part s x ++ gap x.tag) = next b at (first_part s x) (gap x.tag) f e in
          let y : to ≡ at + length (first_part s x ++ gap x.tag) = omega (arith, begins, length-append (first_part s x) (gap x.tag)) in
          next b at (first_part s x ++ gap x.tag) (second_part s x) i (h ∙ ap (λ (y : ℕ). written b₂ y (second_part s x)) y)
          ∙ ap (written b at) (append_assoc (first_part s x) (gap x.tag) (second_part s x))

    pub copied_way : Copies s x b at b₃ (record { item = record { tag = x.tag; kind = x.kind; first = record { start = start; len = n₂ }; second = record { start = begin; len = m₂ }; inner = false; next = begin + m₂ }; broken = z })
    unfolding copied_item
    copied_way =
        record {
          size = put_second.size ∙ ap length put-gap ∙ length_written b₁ (start + n₂) (gap x.tag) ∙ put_first.size;
          broken =
              z-is
              ∙ ap₂ (broken_by x.tag n m) a_part d_part
              ∙ broken_is x.tag x.kind n m (part_of s x.first) (part_of s x.second) (put_first.count ∙ ap name_length a_part) (λ e. put_second.named e ∙ ap name_length d_part);
          bytes = copied_bytes;
          item = λ ok l. let y = n_size ok l in let v = m_size ok l in let u = begin_is ∙ begins ok l in rw (start_is, y, v, u);
        }

pub ruleset parts = (kept_some, kept_none, gap_long, gap_short, gap_put, gap_none)

-- Rows up to a number, over a copy of so many bytes.
abbrev RowWithin : List ℕ → ℕ → ℕ → Type 0
RowWithin u end j = (get_or u (5 * j + 1) 0 + get_or u (5 * j + 2) 0 ≤ end) × (get_or u (5 * j + 3) 0 + get_or u (5 * j + 4) 0 ≤ end)

pub record Held (s : Bytes) (t : List ℕ) (c : Bytes) (u : List ℕ) (end i : ℕ) : Type 0 where
  pub least : end ≤ total room (entries_in s t i)
  pub rows : entries_in c u i ≡ composed_entries (entries_in s t i)
  pub within : (j : ℕ) → j < i → RowWithin u end j

-- After i entries, where there is room for them.
pub record Going (s : Bytes) (t : List ℕ) (b : Bytes) (v : List ℕ) (c : Bytes) (u : List ℕ) (q : Bool) (end i : ℕ) : Type 0 where
  pub bytes : length c ≡ length b
  pub size : length u ≡ length v
  pub broken : q ≡ any breaks_rule (entries_in s t i)
  pub held : any breaks_rule (entries_in s t i) ≡ false → total room (entries_in s t i) ≤ length b → length b ≤ 65535 → 5 * i ≤ length v → Held s t c u end i

pub going_none : (s : Bytes) (t : List ℕ) (b : Bytes) (v : List ℕ) → Going s t b v b v false 0 0
unfolding entries_in tabulate composed_entries total any
going_none s t b v = record { bytes = refl; size = refl; broken = refl; held = λ o h k l. record { least = omega arith; rows = refl; within = λ j m. absurd (omega arith) } }

total_append : (f : Entry → ℕ) (l : List Entry) (e : Entry) → total f (l ++ (e ∷ [])) ≡ total f l + f e
unfolding total
total_append f [] e = omega arith
total_append f (a ∷ l) e = omega (arith, total_append f l e)

composed_append : (l : List Entry) (e : Entry) → composed_entries (l ++ (e ∷ [])) ≡ composed_entries l ++ (composed_entry e ∷ [])
unfolding composed_entries
composed_append [] e = refl
composed_append (a ∷ l) e = ap (λ (k : List Entry). composed_entry a ∷ k) (composed_append l e)

any_last : (p : Entry → Bool) (l : List Entry) (e : Entry) → any p (l ++ (e ∷ [])) ≡ (any p l || p e)
unfolding any
any_last p l e = any_append p l (e ∷ []) ∙ ap (λ (b : Bool). any p l || b) (or-false (p e))

none_last : (p : Entry → Bool) (l : List Entry) (e : Entry) → any p (l ++ (e ∷ [])) ≡ false → (any p l ≡ false) × (p e ≡ false)
none_last p l e h = go (any p l) (p e) refl refl (sym (any_last p l e) ∙ h)
  where
    go : (a b : Bool) → any p l ≡ a → p e ≡ b → (any p l || p e) ≡ false → (any p l ≡ false) × (p e ≡ false)
    go false false x y z = (x, y)
    go true b x y z = absurd (false≢true (sym z ∙ rw x))
    go false true x y z = absurd (false≢true (sym z ∙ rw (x, y)))

-- Rows within a place read the same over bytes that are the same up to there.
row_same : (c d : Bytes) (u : List ℕ) (end j : ℕ) → RowWithin u end j → ((a n : ℕ) → a + n ≤ end → part d a n ≡ part c a n) → entry_at d u j ≡ entry_at c u j
unfolding entry_at
row_same c d u end j w h = rw (h (get_or u (5 * j + 1) 0) (get_or u (5 * j + 2) 0) w.0, h (get_or u (5 * j + 3) 0) (get_or u (5 * j + 4) 0) w.1)

-- A row that is written, and those below it.
module _ (u : List ℕ) (i : ℕ) (y : Item) (e : ℕ) where
  row_within : 5 * i + 5 ≤ length u → e ≤ 65535 → y.first.start + y.first.len ≤ e → y.second.start + y.second.len ≤ e → RowWithin (with_row u i y) e i
  unfolding with_row
  row_within room small a b =
      (omega (arith, cell 1 (omega arith), cell 2 (omega arith)), omega (arith, cell 3 (omega arith), cell 4 (omega arith)))
    where
      cell : (k : ℕ) → k < 5 → get_or (sets u (5 * i) (row y)) (5 * i + k) 0 ≡ get_or (row y) k 0
      cell k l = get_d_sets (row y) u (5 * i) k 0 (omega arith) (omega arith)

  row_within_below : (end j : ℕ) → j < i → end ≤ e → RowWithin u end j → RowWithin (with_row u i y) e j
  unfolding with_row
  row_within_below end j l m w =
      (omega (arith, same 1 (omega arith), same 2 (omega arith), w.0), omega (arith, same 3 (omega arith), same 4 (omega arith), w.1))
    where
      same : (k : ℕ) → k < 5 → get_or (sets u (5 * i) (row y)) (5 * j + k) 0 ≡ get_or u (5 * j + k) 0
      same k h = get_d_sets_below (row y) u (5 * i) (5 * j + k) 0 (omega arith)

rows_same : (c d : Bytes) (u w : List ℕ) (i : ℕ) → ((j : ℕ) → j < i → entry_at d w j ≡ entry_at c u j) → entries_in d w i ≡ entries_in c u i
unfolding entries_in
rows_same c d u w i h = tabulate_ext i (entry_at d w) (entry_at c u) h

by_place : (P : ℕ → Type 0) (i j : ℕ) → j ≤ i → (j < i → P j) → P i → P j
by_place P i j l f h = go (ltb j i) refl
  where
    go : (q : Bool) → ltb j i ≡ q → P j
    go true e = f (ltb-true j i e)
    go false e = let z : i ≡ j = omega (arith, ltb-false j i e) in subst P z h

module _ (s : Bytes) (t : List ℕ) (b : Bytes) (v : List ℕ) (c : Bytes) (u : List ℕ) (q : Bool) (end i : ℕ) (g : Going s t b v c u q end i) where
  pub going_more : (x : Item) (r : Copied) (d : Bytes) (w : List ℕ) (e : ℕ) → ((r : Bytes) → entry_in r x ≡ entry_at r t i) → Copies s x c end d r → w ≡ with_row u i r.item → e ≡ r.item.next % 65536 → Going s t b v d w (q || r.broken) e (i + 1)
  unfolding copied_item
  going_more x r d w e is k p n =
      let y = r.item in
      record {
        bytes = k.size ∙ g.bytes;
        size = ap length p ∙ row_size u i y ∙ g.size;
        broken = ap₂ ◌||◌ g.broken (k.broken ∙ ap breaks_rule (is s)) ∙ sym (ap (any breaks_rule) (rows_last s t i) ∙ any_last breaks_rule (entries_in s t i) (entry_at s t i));
        held = λ ok h short many.
            let last = rows_last s t i in
            let each = none_last breaks_rule (entries_in s t i) (entry_at s t i) (sym (ap (any breaks_rule) last) ∙ ok) in
            let unbroken : breaks_rule (entry_in s x) ≡ false = ap breaks_rule (is s) ∙ each.1 in
            let sum : total room (entries_in s t (i + 1)) ≡ total room (entries_in s t i) + room (entry_at s t i) = ap (total room) last ∙ total_append room (entries_in s t i) (entry_at s t i) in
            let f = g.held each.0 (omega (arith, sum)) short (omega arith) in
            let fits : length (item_text s x) ≤ room (entry_at s t i) = rw (is s) at (item_room s x) in
            let most : end + length (item_text s x) ≤ length c = omega (arith, sum, f.least, g.bytes) in
            let small : end + length (item_text s x) ≤ 65535 = omega (arith, g.bytes) in
            let put : d ≡ written c end (item_text s x) = k.bytes unbroken small in
            let there : y ≡ copied_item s x end = k.item unbroken small in
            let whole = copied_size s x in
            let behind : e ≡ end + length (item_text s x) = n ∙ rw there (omega (arith, whole)) in
            let low : (a m : ℕ) → a + m ≤ end → part d a m ≡ part c a m = λ a m l. ap (λ (z : Bytes). part z a m) put ∙ part_below c (item_text s x) end (omega arith) a m l in
            let many-rows : 5 * i + 5 ≤ length u = omega (arith, g.size) in
            let first : y.first.start + y.first.len ≤ e = rw there (omega (arith, whole, behind)) in
            let second : y.second.start + y.second.len ≤ e = rw there (omega (arith, whole, behind)) in
            let long : length d ≡ length c = k.size in
            let here : entry_at d w i ≡ composed_entry (entry_at s t i) =
            ap (λ (z : List ℕ). entry_at d z i) p
            ∙ row_there u i y d many-rows (omega (arith, g.bytes)) (omega (arith, behind)) (omega (arith, behind))
            ∙ ap₂ entry_in put there ∙ copied_is s x c end most ∙ ap composed_entry (is s) in
            let before : entries_in d w i ≡ entries_in c u i = rows_same c d u w i (λ j l. ap (λ (z : List ℕ). entry_at d z j) p ∙ row_below u i y d j l ∙ row_same c d u end j (f.within j l) low) in
            record {
              least = omega (arith, sum, f.least, behind);
              rows = rows_last d w i ∙ ap₂ (λ (k : List Entry) (z : Entry). k ++ (z ∷ [])) (before ∙ f.rows) here ∙ sym (ap composed_entries last ∙ composed_append (entries_in s t i) (entry_at s t i));
              within = λ j l. rw p (by_place (RowWithin (with_row u i y) e) i j (omega arith) (λ m. row_within_below u i y e end j m (omega (arith, behind)) (f.within j m)) (row_within u i y e many-rows (omega (arith, behind)) first second));
            };
      }

  pub going_done : (n : ℕ) → i ≤ n → n ≤ i → Composes s t n b v c u q
  going_done n l m = let e : i ≡ n = omega arith in record { broken = rw (← e) g.broken; rows = λ o h k j. rw (← e) (g.held (rw (← e) at o) (rw (← e) at h) k (omega arith)).rows; size = g.size }
