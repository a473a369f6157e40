-- Entries that ascend: halving finds where a key belongs.
use Rattle.std.specs.Prelude.{Option, Some, None}
use Rattle.std.specs.Bool.{then_some}
use Prim.Native.Nat.{ℕ, ◌+◌, ◌/◌, ◌%◌, ◌≤◌, ◌<◌}
use mathlib.Core.Path.{◌≡◌, refl, sym, ap, ◌∙◌, subst}
use mathlib.Core.Bool.{Bool, true, false, true≢false}
use mathlib.Core.List.{[], ◌∷◌}
use native.Mathlib.Omega.{arith}
use borrow.Author.Tests.{le-ltb, lt-ltb}
use lib.ListN.{length, get_or, drop, set, replicate, length-drop}
use lib.Seq.{take_all}
use Rattle.text.specs.Bytes.{Bytes, part, order_of}
use Rattle.std.specs.Ordering.{is_lt, is_eq}
use Rattle.std.specs.declared.cmp.Ordering.{Ordering}
use Rattle.std.specs.declared.cmp.Ordering.TheVariants.{Less, Greater}
use Rattle.text.proofs.Laws.{order_refl, order_eq}
use Rattle.text.proofs.Tables.{length_tabulate, get_d_tabulate}
use Rattle.sorting.specs.Ascending.{is_less, is_equal, ascends, rank}
use Rattle.sorting.proofs.Canonical.{equal_is, less_is_lt, equal_is_eq}
use Rattle.sorting.proofs.Orders.{bytes_total}
use Rattle.sorting.proofs.Ranks.{rank_most, rank_above, rank_below}
use Rattle.register_form.specs.Dictionary.{labelled, term_of}
use Rattle.register_form.specs.Encoding.{plain_text}
use Rattle.register_form.specs.Form.{term_count, text_count, term_at, text_at, dictionary_in}
use Rattle.buffer.proofs.Numbers.{two_small}
use Rattle.register_form.proofs.Lists.{number_back, number_small}
use Rattle.register_form_view.specs.Ranges.{entries_in, entry_at, key_of, Ranked, Located}
use Rattle.register_form_view.specs.declared.Index.{Index}

-- compare_plain
module _ (t x : Bytes) where
  pub plain_empty : length t ≡ 0 → Less ≡ order_of t (plain_text x)
  unfolding order_of labelled
  plain_empty e = go t e
    where
      go : (t : Bytes) → length t ≡ 0 → Less ≡ order_of t (plain_text x)
      go [] e = refl
      go (b ∷ s) e = absurd (omega arith)

  module _ (b : ℕ) (e : b ≡ get_or t 0 0) where
    pub plain_spaced : 0 < b → Greater ≡ order_of t (plain_text x)
    unfolding order_of labelled
    plain_spaced l = go t e
      where
        go : (t : Bytes) → b ≡ get_or t 0 0 → Greater ≡ order_of t (plain_text x)
        go [] e = absurd (omega arith)
        go (a ∷ s) e = rw (← e, le-ltb b 0 (omega arith), lt-ltb 0 b l)

    pub plain_name : (u : Bytes) (r : Ordering) → b ≤ 0 → (length t ≡ 0 → ⊥) → u ≡ part t 1 (length t) → r ≡ order_of u x → r ≡ order_of t (plain_text x)
    unfolding order_of labelled
    plain_name u r l some f g = go t e some (g ∙ ap (λ (v : Bytes). order_of v x) (f ∙ take_all (length t) (drop 1 t) (omega (arith, length-drop 1 t))))
      where
        go : (t : Bytes) → b ≡ get_or t 0 0 → (length t ≡ 0 → ⊥) → r ≡ order_of (drop 1 t) x → r ≡ order_of t (plain_text x)
        go [] e some g = absurd (some refl)
        go (a ∷ s) e some g = rw (← e, le-ltb b 0 (omega arith), le-ltb 0 b (omega arith)) g

-- compare_entry, entry_count
module _ (h : Bytes) (index : Index) where
  module _ (m : ℕ) (key t : Bytes) (r : Ordering) where
    pub entry_name : index ≡ Index.Names → t ≡ text_at h m → r ≡ order_of t (plain_text key) → r ≡ order_of (entry_at h index m) (key_of index key)
    entry_name e f g = rw (e, ← f) g

    pub entry_text : index ≡ Index.Texts → t ≡ text_at h m → r ≡ order_of t key → r ≡ order_of (entry_at h index m) (key_of index key)
    entry_text e f g = rw (e, ← f) g

    pub entry_term : index ≡ Index.Terms → t ≡ term_at h m → r ≡ order_of t key → r ≡ order_of (entry_at h index m) (key_of index key)
    entry_term e f g = rw (e, ← f) g

  pub count_names : (r : ℕ) → index ≡ Index.Names → r ≡ text_count h → r ≡ length (entries_in h index)
  unfolding dictionary_in
  count_names r e f = rw e (f ∙ sym (length_tabulate (text_count h) (text_at h)))

  pub count_texts : (r : ℕ) → index ≡ Index.Texts → r ≡ text_count h → r ≡ length (entries_in h index)
  unfolding dictionary_in
  count_texts r e f = rw e (f ∙ sym (length_tabulate (text_count h) (text_at h)))

  pub count_terms : (r : ℕ) → index ≡ Index.Terms → r ≡ term_count h → r ≡ length (entries_in h index)
  unfolding dictionary_in
  count_terms r e f = rw e (f ∙ sym (length_tabulate (term_count h) (term_at h)))

pub entry_in_lem : (h : Bytes) (index : Index) (m : ℕ) → m < length (entries_in h index) → get_or (entries_in h index) m [] ≡ entry_at h index m
unfolding dictionary_in
entry_in_lem h Index.Names m l = get_d_tabulate (text_count h) (text_at h) [] m (omega (arith, length_tabulate (text_count h) (text_at h)))
entry_in_lem h Index.Texts m l = get_d_tabulate (text_count h) (text_at h) [] m (omega (arith, length_tabulate (text_count h) (text_at h)))
entry_in_lem h Index.Terms m l = get_d_tabulate (term_count h) (term_at h) [] m (omega (arith, length_tabulate (term_count h) (term_at h)))

-- find: the key's rank lies between two numbers.
pub record Between (h : Bytes) (index : Index) (key : Bytes) (lo hi : ℕ) : Type 0 where
  pub ordered : lo ≤ hi
  pub most : hi ≤ length (entries_in h index)
  pub are : ascends order_of (entries_in h index) ≡ true → (lo ≤ rank order_of (key_of index key) (entries_in h index)) × (rank order_of (key_of index key) (entries_in h index) ≤ hi)

module _ (h : Bytes) (index : Index) (key : Bytes) where
  pub between_all : (n : ℕ) → n ≡ length (entries_in h index) → Between h index key 0 n
  between_all n e = record { ordered = omega arith; most = omega arith; are = λ p. (omega arith, omega (arith, rank_most order_of bytes_total (key_of index key) (entries_in h index))) }

  module _ (lo hi m : ℕ) (r : Ordering) (b : Bool) (w : Between h index key lo hi) (low : lo ≤ m) (k : m < hi) (c : r ≡ order_of (entry_at h index m) (key_of index key)) (g : b ≡ is_lt r) where
    inside : m < length (entries_in h index)
    inside = omega (arith, w.most)

    there : is_less (order_of (get_or (entries_in h index) m []) (key_of index key)) ≡ b
    there = rw (entry_in_lem h index m inside) (sym (g ∙ less_is_lt r ∙ ap is_less c))

    pub between_up : b ≡ true → Between h index key (m + 1) hi
    between_up t = record { ordered = omega arith; most = w.most; are = λ p. (omega (arith, rank_above order_of bytes_total (key_of index key) (entries_in h index) m [] p inside (there ∙ t)), (w.are p).1) }

    pub between_down : b ≡ false → Between h index key lo m
    between_down t = record { ordered = low; most = omega (arith, w.most); are = λ p. ((w.are p).0, rank_below order_of bytes_total (key_of index key) (entries_in h index) m [] p inside (there ∙ t)) }

  pub ranked_between : (lo hi : ℕ) → Between h index key lo hi → hi ≤ lo → Ranked h index key lo
  unfolding Ranked
  ranked_between lo hi w k p = let z = w.are p in omega arith

  -- binary_search
  module _ (m n : ℕ) (f : Ranked h index key m) (c : n ≡ length (entries_in h index)) where
    pub located_past : n ≤ m → Located h index key None
    unfolding Located Ranked
    located_past l p k = omega (arith, f p, number_small (entries_in h index) p (key_of index key) k)

    module _ (l : m < n) (r : Ordering) (e : r ≡ order_of (entry_at h index m) (key_of index key)) (b : Bool) (g : b ≡ is_eq r) where
      order_there : r ≡ order_of (get_or (entries_in h index) m []) (key_of index key)
      order_there = rw (entry_in_lem h index m (omega arith)) e

      located_at : b ≡ true → Located h index key (Some m)
      unfolding Located
      located_at t = (omega arith, order_eq _ _ (sym order_there ∙ equal_is r (sym (g ∙ equal_is_eq r) ∙ t)))

      located_none : b ≡ false → Located h index key None
      unfolding Located Ranked
      located_none t p k =
          let at : get_or (entries_in h index) m [] ≡ key_of index key = ap (λ (j : ℕ). get_or (entries_in h index) j []) (f p) ∙ number_back (entries_in h index) p (key_of index key) k in
          absurd (true≢false (sym (g ∙ equal_is_eq r ∙ ap is_equal (order_there ∙ ap (λ (z : Bytes). order_of z (key_of index key)) at ∙ order_refl (key_of index key))) ∙ t))

      pub located_told : (o : Option ℕ) → o ≡ then_some b m → Located h index key o
      located_told o told = go b refl told
        where
          go : (c : Bool) → b ≡ c → o ≡ then_some c m → Located h index key o
          go true t f = rw f (located_at t)
          go false t f = rw f (located_none t)

-- The place of a term that was found has one behind it.
pub place_small : (h key : Bytes) (r : Option ℕ) (f : ℕ) → ((i : ℕ) → get_or h i 0 < 256) → Located h Index.Terms key r → r ≡ Some f → f + 1 < 65536
unfolding Located dictionary_in
place_small h key r f bytes at e = omega (arith, (subst (Located h Index.Terms key) e at).0, length_tabulate (term_count h) (term_at h), two_small h 4 bytes)

pub ruleset searching = (plain_empty, plain_spaced, plain_name, entry_name, entry_text, entry_term, count_names, count_texts, count_terms, located_past, located_told)

-- category_term: the bytes of its key
pub category_located : (h : Bytes) (k : ℕ) (r : Option ℕ) → k < 65536 → Located h Index.Terms (set (set (replicate 9 0) 1 (k % 256)) 2 (k / 256)) r → Located h Index.Terms (term_of 0 k) r
category_located h k r l at =
    let a : k / 65536 ≡ 0 = omega arith in
    let b : k / 256 % 256 ≡ k / 256 = omega arith in
    rw (a, b) at
