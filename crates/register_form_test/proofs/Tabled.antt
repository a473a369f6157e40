-- Tests of tables by their places, and tables written entry by entry.
use Prim.Native.Nat.{ℕ, zero, suc, ◌+◌, ◌≤◌, ◌<◌}
use mathlib.Core.Path.{◌≡◌, refl, ap, sym, ◌∙◌}
use mathlib.Core.Bool.{Bool, true, false, not, ◌&&◌, ◌||◌, or-false}
use mathlib.Core.List.{List, [], ◌∷◌, ◌++◌, append_assoc, flat_map}
use native.Mathlib.Omega.{arith}
use native.Mathlib.Nat.{le_refl}
use native.Mathlib.Decide.{ℕ_discrete}
use lib.Dec.{eqb}
use lib.ListN.{length, get_or, set}
use lib.Seq.{get_or-set_same, get_or-set_other}
use borrow.Author.Tests.{eq-eqb, ne_eqb}
use Rattle.text.specs.Bytes.{Bytes, order_of, any, all}
use Rattle.text.specs.Table.{tabulate}
use Rattle.text.proofs.Laws.{any_append, all_append}
use Rattle.language.specs.Register.{distinct}
use Rattle.language.specs.Rules.{total}
use Rattle.sorting.specs.Ascending.{is_less, ascends, below}
use Rattle.sorting.proofs.Canonical.{ascends_snoc}
use Rattle.sorting.proofs.Orders.{bytes_total}
use Rattle.register_form.specs.Dictionary.{is_category}
use Rattle.register_form.specs.Tests.{in_order}
use Rattle.buffer.specs.Tests.{all_to}
use Rattle.buffer.proofs.Parts.{flat_more}
use Rattle.register_form_test.specs.Loops.{written, sum_to, climbs}
use Rattle.buffer.proofs.Testing.{and_true}
use Rattle.register_form_test.proofs.Loops.{length_written}

-- Tests of two things at each place.
four : (a b c d : Bool) → ((a && b) && (c && d)) ≡ ((a && c) && (b && d))
four true true c d = refl
four true false true d = refl
four true false false d = refl
four false b c d = refl

pub all_and : (n : ℕ) (f g : ℕ → Bool) → all_to n (λ i. f i && g i) ≡ (all_to n f && all_to n g)
unfolding all_to
all_and zero f g = refl
all_and (suc n) f g = rw (all_and n f g) (four (all_to n f) (all_to n g) (f n) (g n))

-- Tests of each element of a table.
module _ {A : Type 0} where
  pub all_tabulate : (p : A → Bool) (n : ℕ) (f : ℕ → A) → all p (tabulate n f) ≡ all_to n (λ i. p (f i))
  unfolding tabulate all_to all
  all_tabulate p zero f = refl
  all_tabulate p (suc n) f = all_append p (tabulate n f) (f n ∷ []) ∙ rw (all_tabulate p n f, and_true (p (f n)))

  pub any_snoc : (p : A → Bool) (n : ℕ) (f : ℕ → A) → any p (tabulate (suc n) f) ≡ (any p (tabulate n f) || p (f n))
  unfolding tabulate any
  any_snoc p n f = any_append p (tabulate n f) (f n ∷ []) ∙ rw or-false

  total_append : (g : A → ℕ) (l m : List A) → total g (l ++ m) ≡ total g l + total g m
  unfolding total
  total_append g [] m = omega arith
  total_append g (a ∷ l) m = omega (arith, total_append g l m)

  pub total_tabulate : (g : A → ℕ) (n : ℕ) (f : ℕ → A) → total g (tabulate n f) ≡ sum_to n (λ i. g (f i))
  unfolding tabulate total sum_to
  total_tabulate g zero f = refl
  total_tabulate g (suc n) f = omega (arith, total_append g (tabulate n f) (f n ∷ []), total_tabulate g n f)

-- what is joined from the elements of a table
module _ {A B : Type 0} (f : A → List B) (g : ℕ → A) where
  pub any_joined : (p : B → Bool) (n : ℕ) → any p (flat_map f (tabulate (suc n) g)) ≡ (any p (flat_map f (tabulate n g)) || any p (f (g n)))
  any_joined p n = ap (any p) (flat_more f n g) ∙ any_append p (flat_map f (tabulate n g)) (f (g n))

  pub total_joined : (q : B → ℕ) (n : ℕ) → total q (flat_map f (tabulate n g)) ≡ sum_to n (λ i. total q (f (g i)))
  unfolding tabulate total sum_to flat_map
  total_joined q zero = refl
  total_joined q (suc n) = ap (total q) (flat_more f n g) ∙ total_append q (flat_map f (tabulate n g)) (f (g n)) ∙ rw (total_joined q n)

-- sums
pub sum_ext : (n : ℕ) (f g : ℕ → ℕ) → ((i : ℕ) → i < n → f i ≡ g i) → sum_to n f ≡ sum_to n g
unfolding sum_to
sum_ext zero f g h = refl
sum_ext (suc n) f g h = rw (sum_ext n f g (λ i l. h i (omega arith)), h n (le_refl _))

pub sum_plus : (n : ℕ) (f g : ℕ → ℕ) → sum_to n (λ i. f i + g i) ≡ sum_to n f + sum_to n g
unfolding sum_to
sum_plus zero f g = refl
sum_plus (suc n) f g = omega (arith, sum_plus n f g)

-- Each is less than the next.
up_snoc : (n : ℕ) (f : ℕ → Bytes) → ascends order_of (tabulate (suc (suc n)) f) ≡ (ascends order_of (tabulate (suc n) f) && is_less (order_of (f n) (f (suc n))))
unfolding tabulate
up_snoc n f = rw append_assoc (ascends_snoc order_of bytes_total (tabulate n f) (f n) (f (suc n)))

pub ascends_tabulate : (n : ℕ) (f : ℕ → Bytes) → ascends order_of (tabulate n f) ≡ all_to n (climbs f)
unfolding tabulate ascends below all_to climbs
ascends_tabulate zero f = refl
ascends_tabulate (suc zero) f = refl
ascends_tabulate (suc (suc n)) f = up_snoc n f ∙ ap (λ (b : Bool). b && is_less (order_of (f n) (f (suc n)))) (ascends_tabulate (suc n) f)

-- None is there twice.
eqb_sym : (a b : ℕ) → eqb a b ≡ eqb b a
eqb_sym a b = go (ℕ_discrete a b)
  where
    go : Dec (a ≡ b) → eqb a b ≡ eqb b a
    go (yes e) = rw e
    go (no e) = rw (ne_eqb a b e, ne_eqb b a (λ k. e (sym k)))

apart : (u e d w : Bool) → (not (u || e) && (d && not w)) ≡ ((not u && d) && not (e || w))
apart true e d w = refl
apart false true true w = refl
apart false true false w = refl
apart false false d w = refl

distinct_snoc : (l : List ℕ) (x : ℕ) → distinct eqb (l ++ (x ∷ [])) ≡ (distinct eqb l && not (any (eqb x) l))
unfolding distinct any
distinct_snoc [] x = refl
distinct_snoc (a ∷ l) x =
    rw (any_append (eqb a) l (x ∷ []), distinct_snoc l x, or-false, eqb_sym a x) (apart (any (eqb a) l) (eqb x a) (distinct eqb l) (any (eqb x) l))

pub distinct_tabulate : (n : ℕ) (f : ℕ → ℕ) → distinct eqb (tabulate n f) ≡ all_to n (λ i. not (any (eqb (f i)) (tabulate i f)))
unfolding tabulate distinct all_to
distinct_tabulate zero f = refl
distinct_tabulate (suc n) f = distinct_snoc (tabulate n f) (f n) ∙ rw (distinct_tabulate n f)

-- Categories stand before values.
unfoldable pub behind_in : (ℕ → Bytes) → ℕ → Bool
behind_in g zero = false
behind_in g (suc j) = not (is_category (g j))

after : Bool → List Bytes → Bool
after b [] = b
after b (t ∷ l) = after (not (is_category t)) l

pub and_assoc : (a b c : Bool) → (a && (b && c)) ≡ ((a && b) && c)
and_assoc true b c = refl
and_assoc false b c = refl

order_snoc : (b : Bool) (l : List Bytes) (t : Bytes) → in_order b (l ++ (t ∷ [])) ≡ (in_order b l && not (after b l && is_category t))
unfolding in_order after
order_snoc b [] t = and_true (not (b && is_category t))
order_snoc b (s ∷ l) t =
    rw (order_snoc (not (is_category s)) l t) (and_assoc (not (b && is_category s)) (in_order (not (is_category s)) l) (not (after (not (is_category s)) l && is_category t)))

after_snoc : (b : Bool) (l : List Bytes) (t : Bytes) → after b (l ++ (t ∷ [])) ≡ not (is_category t)
unfolding after
after_snoc b [] t = refl
after_snoc b (s ∷ l) t = after_snoc (not (is_category s)) l t

after_table : (g : ℕ → Bytes) (n : ℕ) → after false (tabulate n g) ≡ behind_in g n
unfolding tabulate after behind_in
after_table g zero = refl
after_table g (suc n) = after_snoc false (tabulate n g) (g n)

pub order_tabulate : (n : ℕ) (g : ℕ → Bytes) → in_order false (tabulate n g) ≡ all_to n (λ j. not (behind_in g j && is_category (g j)))
unfolding tabulate in_order all_to
order_tabulate zero g = refl
order_tabulate (suc n) g = order_snoc false (tabulate n g) (g n) ∙ rw (order_tabulate n g, after_table g n)

-- What a written table has.
or_true : (b : Bool) → (b || true) ≡ true
or_true true = refl
or_true false = refl

module _ (q : ℕ → Bool) (at v : ℕ → ℕ) (good : (i : ℕ) → q (v i) ≡ true) (t : List ℕ) (x : ℕ) (b : x < length t) where
  -- where what is written passes a test
  pub written_holds : (n : ℕ) → q (get_or (written at v n t) x 0) ≡ (any (eqb x) (tabulate n at) || q (get_or t x 0))
  unfolding written tabulate any
  written_holds zero = refl
  written_holds (suc n) = go (ℕ_discrete x (at n)) (written_holds n)
    where
      go : Dec (x ≡ at n) → q (get_or (written at v n t) x 0) ≡ (any (eqb x) (tabulate n at) || q (get_or t x 0)) → q (get_or (set (written at v n t) (at n) (v n)) x 0) ≡ (any (eqb x) (tabulate (suc n) at) || q (get_or t x 0))
      go (yes e) ih =
          rw (any_snoc (eqb x) n at, eq-eqb x (at n) e, or_true (any (eqb x) (tabulate n at)))
          (ap q (rw e (get_or-set_same (written at v n t) (at n) (v n) 0 (omega (arith, length_written at v t n)))) ∙ good n)
      go (no e) ih =
          rw (any_snoc (eqb x) n at, ne_eqb x (at n) e, or-false (any (eqb x) (tabulate n at)))
          (ap q (get_or-set_other (written at v n t) (at n) x (v n) 0 e) ∙ ih)

pub written_fill : (v : ℕ → ℕ) (t : List ℕ) (x : ℕ) → x < length t → (n : ℕ) → x < n → get_or (written (λ i. i) v n t) x 0 ≡ v x
unfolding written
written_fill v t x b zero l = absurd (omega arith)
written_fill v t x b (suc n) l = go (ℕ_discrete x n) (written_fill v t x b n)
  where
    go : Dec (x ≡ n) → (x < n → get_or (written (λ i. i) v n t) x 0 ≡ v x) → get_or (set (written (λ i. i) v n t) n (v n)) x 0 ≡ v x
    go (yes e) ih = rw e (get_or-set_same (written (λ i. i) v n t) n (v n) 0 (omega (arith, length_written (λ i. i) v t n)))
    go (no e) ih = get_or-set_other (written (λ i. i) v n t) n x (v n) 0 e ∙ ih (omega (arith, e))

pub written_most : (at : ℕ → ℕ) (m : ℕ) (t : List ℕ) (x : ℕ) → get_or t x 0 ≤ m → x < length t → (n : ℕ) → get_or (written at (λ i. m) n t) x 0 ≤ m
unfolding written
written_most at m t x l b zero = l
written_most at m t x l b (suc n) = go (ℕ_discrete x (at n)) (written_most at m t x l b n)
  where
    go : Dec (x ≡ at n) → get_or (written at (λ i. m) n t) x 0 ≤ m → get_or (set (written at (λ i. m) n t) (at n) m) x 0 ≤ m
    go (yes e) ih = rw (e, get_or-set_same (written at (λ i. m) n t) (at n) m 0 (omega (arith, length_written at (λ i. m) t n))) (le_refl m)
    go (no e) ih = rw (get_or-set_other (written at (λ i. m) n t) (at n) x m 0 e) ih
