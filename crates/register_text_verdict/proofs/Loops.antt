-- The loops over rows: what holds after a turn, and at the end.
use Prim.Native.Nat.{ℕ, zero, suc, ◌+◌, ◌%◌, ◌≤◌, ◌<◌}
use mathlib.Core.Path.{◌≡◌, refl, sym, ap, ap₂, ◌∙◌}
use mathlib.Core.Bool.{Bool, true, false, cond, ◌||◌, or-false, or_assoc}
use mathlib.Core.List.{List, [], ◌∷◌, ◌++◌, append-nil}
use native.Mathlib.Nat.{mod-eq_of_lt, add-zero}
use native.Mathlib.Numerals.{add-one}
use native.Mathlib.Omega.{arith}
use lib.ListN.{length, take, set, length-set, length-append}
use lib.Seq.{take-suc-set, take-set-le}
use Rattle.std.specs.List.{list_any, filter, range_with_len}
use Rattle.text.specs.Bytes.{Bytes}
use Rattle.text.specs.Table.{bit, count_to}
use Rattle.text.proofs.Tables.{count_most}
use Rattle.values.specs.declared.Kind.{Kind}
use Rattle.language.specs.RegisterText.{is_inner}
use Rattle.register_text_entries.specs.Items.{entry_by, entry_in}
use Rattle.register_text_entries.specs.Table.{entry_at}
use Rattle.register_text_entries.specs.declared.Tag.{Tag}
use Rattle.register_text_entries.specs.declared.Item.{Item}
use Rattle.register_text_verdict.specs.Rows.{any_to, places_to, twice_to}
use Rattle.register_text_verdict.specs.Checks.{declares, declares_tag, inner_tag, rows_that, Collected}
use Rattle.register_text_verdict.specs.declared.Declared.{Declared}
use Rattle.register_text_verdict.proofs.Rows.{places_count}

-- A test of the numbers below n, by the library's words for a range.
range_last : (g : ℕ → Bool) (a n : ℕ) → list_any g (range_with_len a (suc n)) ≡ list_any g (range_with_len a n) || g (a + n)
range_last g a zero = rw add-zero (or-false (g a))
range_last g a (suc n) =
    let k : a + 1 + n ≡ a + suc n = omega arith in
    ap (λ b. g a || b) (range_last g (a + 1) n ∙ ap (λ i. list_any g (range_with_len (a + 1) n) || g i) k) ∙ sym (or_assoc (g a) (list_any g (range_with_len (a + 1) n)) (g (a + suc n)))

pub any_range : (g : ℕ → Bool) (n : ℕ) → list_any g (range_with_len 0 n) ≡ any_to n g
unfolding any_to
any_range g zero = refl
any_range g (suc n) = let k : 0 + n ≡ n = omega arith in range_last g 0 n ∙ ap₂ ◌||◌ (any_range g n) (ap g k)

pub any_twice : (q : ℕ → ℕ → Bool) (n : ℕ) → any_to n (λ i. any_to i (λ j. q j i)) ≡ twice_to n q
unfolding any_to twice_to
any_twice q zero = refl
any_twice q (suc n) = ap (λ b. b || any_to n (λ j. q j n)) (any_twice q n)

-- How many of the first n.
bit_most : (b : Bool) → bit b ≤ 1
bit_most true = omega arith
bit_most false = omega arith

count_last : (g : ℕ → Bool) (a n : ℕ) → length (filter g (range_with_len a (suc n))) ≡ length (filter g (range_with_len a n)) + bit (g (a + n))
count_last g a zero = rw add-zero (one (g a))
  where
    one : (b : Bool) → length (cond b (a ∷ []) []) ≡ 0 + bit b
    one true = omega arith
    one false = omega arith
count_last g a (suc n) =
    let k : a + 1 + n ≡ a + suc n = omega arith in
    more (g a) (count_last g (a + 1) n ∙ ap (λ i. length (filter g (range_with_len (a + 1) n)) + bit (g i)) k)
  where
    more : (b : Bool) → length (filter g (range_with_len (a + 1) (suc n))) ≡ length (filter g (range_with_len (a + 1) n)) + bit (g (a + suc n))
        → length (cond b (a ∷ filter g (range_with_len (a + 1) (suc n))) (filter g (range_with_len (a + 1) (suc n)))) ≡ length (cond b (a ∷ filter g (range_with_len (a + 1) n)) (filter g (range_with_len (a + 1) n))) + bit (g (a + suc n))
    more true rest = omega arith
    more false rest = rest

pub count_range : (g : ℕ → Bool) (n : ℕ) → length (filter g (range_with_len 0 n)) ≡ count_to n g
unfolding count_to
count_range g zero = refl
count_range g (suc n) = let k : 0 + n ≡ n = omega arith in count_last g 0 n ∙ ap₂ (λ m b. m + bit b) (count_range g n) (ap g k)

inner_tag_lem : (g : Tag) (k : Kind) (a b : Bytes) → inner_tag g ≡ is_inner (entry_by g k a b)
inner_tag_lem Tag.Prop k a b = refl
inner_tag_lem Tag.Page k a b = refl
inner_tag_lem Tag.Cat k a b = refl
inner_tag_lem Tag.Val k a b = refl
inner_tag_lem Tag.Close k a b = refl

pub inner_row : (t : List ℕ) (i : ℕ) (x : Item) → ((s : Bytes) → entry_in s x ≡ entry_at s t i) → (r : Bool) → r ≡ inner_tag x.tag → r ≡ is_inner (entry_at [] t i)
inner_row t i x f r e = e ∙ inner_tag_lem x.tag x.kind _ _ ∙ ap is_inner (f [])

-- The rows that declare something.
declares_tag_lem : (what : Declared) (g : Tag) (k : Kind) (a b : Bytes) → declares_tag what g ≡ declares what (entry_by g k a b)
declares_tag_lem Declared.Property Tag.Prop k a b = refl
declares_tag_lem Declared.Property Tag.Page k a b = refl
declares_tag_lem Declared.Property Tag.Cat k a b = refl
declares_tag_lem Declared.Property Tag.Val k a b = refl
declares_tag_lem Declared.Property Tag.Close k a b = refl
declares_tag_lem Declared.Page Tag.Prop k a b = refl
declares_tag_lem Declared.Page Tag.Page k a b = refl
declares_tag_lem Declared.Page Tag.Cat k a b = refl
declares_tag_lem Declared.Page Tag.Val k a b = refl
declares_tag_lem Declared.Page Tag.Close k a b = refl

-- After i rows: u is the list, o what it was.
pub record Collecting (what : Declared) (t : List ℕ) (n : ℕ) (o u : List ℕ) (m i : ℕ) : Type 0 where
  pub below : i ≤ n
  pub count : m ≡ length (rows_that what t i)
  pub rows : n ≤ 65536 → n ≤ length o → take m u ≡ rows_that what t i
  pub size : length u ≡ length o

pub collect_start : (what : Declared) (t : List ℕ) (n : ℕ) (o : List ℕ) → Collecting what t n o o 0 0
unfolding places_to
collect_start what t n o = record { below = omega arith; count = refl; rows = λ h k. refl; size = refl }

module _ (what : Declared) (t : List ℕ) (n : ℕ) (o u : List ℕ) (m i : ℕ) (h : Collecting what t n o u m i) where
  most : m ≤ i
  most = omega (arith, h.count, places_count i (λ j. declares what (entry_at [] t j)), count_most i (λ j. declares what (entry_at [] t j)))

  pub collect_end : n ≤ i → Collected what t n o u m
  collect_end l =
      let e : i ≡ n = omega (arith, h.below) in
      record { count = rw e at h.count; rows = rw e at h.rows; size = h.size }

  module _ (l : i < n) (x : Item) (f : (s : Bytes) → entry_in s x ≡ entry_at s t i) (b : Bool) (e : b ≡ declares_tag what x.tag) (d : ℕ) (k : d ≡ bit b) where
    pub collect_fits : m + d ≤ n
    collect_fits = omega (arith, most, bit_most b)

    here : declares what (entry_at [] t i) ≡ b
    here = sym (e ∙ declares_tag_lem what x.tag x.kind _ _ ∙ ap (declares what) (f []))

    next : rows_that what t (i + 1) ≡ rows_that what t i ++ cond b (i ∷ []) []
    unfolding places_to
    next = rw (add-one i, here)

    one : (c : Bool) → length (cond c (i ∷ []) []) ≡ bit c
    one true = refl
    one false = refl

    put_row : n ≤ 65536 → n ≤ length o → (c : Bool) → take (m + bit c) (set u m (i % 65536)) ≡ take m u ++ cond c (i ∷ []) []
    put_row short room true =
        let z : i % 65536 ≡ i = mod-eq_of_lt (omega arith) in
        rw (add-one m, z) (take-suc-set u m i (omega (arith, most, h.size)))
    put_row short room false = rw (add-zero m, append-nil (take m u)) (take-set-le m u m (i % 65536) (omega arith))

    pub collect_more : (v : List ℕ) → v ≡ set u m (i % 65536) → Collecting what t n o v (m + d) (i + 1)
    collect_more v g =
        record {
          below = omega arith;
          count = ap₂ ◌+◌ h.count (k ∙ sym (one b)) ∙ sym (ap length next ∙ length-append (rows_that what t i) (cond b (i ∷ []) []));
          rows = λ short room. rw (g, k) (put_row short room b ∙ ap (λ z. z ++ cond b (i ∷ []) []) (h.rows short room) ∙ sym next);
          size = ap length g ∙ length-set u m (i % 65536) ∙ h.size;
        }
