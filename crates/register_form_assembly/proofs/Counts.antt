-- Sums of bytes, up to 32,769.
use Prim.Native.Nat.{ℕ, ◌+◌, ◌-◌, ◌%◌, ◌≤◌, ◌<◌, min}
use mathlib.Core.Path.{◌≡◌, refl, sym, ap, ◌∙◌}
use mathlib.Core.Bool.{Bool, true, ◌&&◌}
use mathlib.Core.List.{List, ◌∷◌}
use Rattle.std.specs.Prelude.{Option, Some}
use native.Mathlib.Numerals.{add-one}
use native.Mathlib.Omega.{arith}
use lib.ListN.{length, get_or, drop, drop_of_length-le}
use lib.Seq.{drop-cons}
use lib.Dec.{ltb}
use borrow.Author.Tests.{eq-eqb, ne_eqb, ltb-true}
use Rattle.text.specs.Bytes.{Bytes}
use Rattle.text.specs.Table.{Tabled}
use Rattle.text.proofs.Tables.{length_tabulate, get_d_tabulate}
use Rattle.values.specs.Values.{kind_from}
use Rattle.values.specs.declared.Kind.{Kind}
use Rattle.values.specs.declared.Scalar.{Scalar}
use Rattle.values.specs.Spelling.{spell_scalar}
use Rattle.language.specs.Rules.{total}
use Rattle.language.proofs.Members.{and_true}
use Rattle.dictionary.specs.Items.{text_at}
use Rattle.register_form_bytes.specs.Writing.{first_of}
use Rattle.register_form_assembly.specs.Counting.{text_bytes, link_bytes, value_bytes, form_bytes, term_bytes_by, capped, SizesAdded}

module _ (s : Bytes) (starts lens : List ℕ) where
  pub text_bytes_lem : (i n m r : ℕ) → n ≡ length (text_at s starts lens i) → m ≡ n - 1 → r ≡ m → r ≡ text_bytes s starts lens i
  unfolding text_bytes
  text_bytes_lem i n m r e f g = g ∙ f ∙ rw e

  module _ (i n m b w : ℕ) (t : Bytes) (e : n ≡ length (text_at s starts lens i)) (f : m ≡ n - 1) (g : t ≡ text_at s starts lens i) (h : b ≡ get_or t 0 0) (j : w ≡ m) where
    pub link_plain : b ≡ 0 → w ≡ link_bytes s starts lens i
    unfolding link_bytes text_bytes
    link_plain z =
        let first : get_or (text_at s starts lens i) 0 0 ≡ 0 = sym (h ∙ rw g) ∙ z in
        rw (eq-eqb (get_or (text_at s starts lens i) 0 0) 0 first) (omega arith)

    pub link_spaced : (b ≡ 0 → ⊥) → w + 1 ≡ link_bytes s starts lens i
    unfolding link_bytes text_bytes
    link_spaced z =
        let first : b ≡ get_or (text_at s starts lens i) 0 0 = h ∙ rw g in
        rw (ne_eqb (get_or (text_at s starts lens i) 0 0) 0 (λ y. z (first ∙ y))) (omega arith)

  module _ (k : Kind) (c r : ℕ) where
    pub value_page : (l : ℕ) → k ≡ Kind.Page → l ≡ c % 65536 → r ≡ link_bytes s starts lens l → r ≡ value_bytes s starts lens k c
    value_page l e d f = rw (e, ← d) f

    pub value_scalar : (j : Scalar) → k ≡ Kind.Scalar j → r ≡ length (spell_scalar j c) → r ≡ value_bytes s starts lens k c
    value_scalar j e f = rw e f

    pub value_string : (l : ℕ) → k ≡ Kind.String → l ≡ c % 65536 → r ≡ text_bytes s starts lens l → r ≡ value_bytes s starts lens k c
    value_string l e d f = rw (e, ← d) f

  module _ (kinds : List ℕ) (g c r : ℕ) where
    pub form_category : (l : ℕ) → g ≡ 0 → l ≡ c % 65536 → r ≡ text_bytes s starts lens l → r ≡ form_bytes s starts lens kinds g c
    unfolding form_bytes
    form_category l e d f = rw (eq-eqb g 0 e, ← d) f

    pub form_value : (b : ℕ) (k : Kind) → (g ≡ 0 → ⊥) → b ≡ get_or kinds (g - 1) 0 → k ≡ kind_from b → r ≡ value_bytes s starts lens k c → r ≡ form_bytes s starts lens kinds g c
    unfolding form_bytes
    form_value b k n d e f = rw (ne_eqb g 0 n, ← d, ← e) f

  pub term_bytes_lem : (kinds groups codes refs : List ℕ) (t w f g c r : ℕ) → w ≡ t → f ≡ get_or refs w 0 → g ≡ get_or groups f 0 → c ≡ get_or codes f 0 → r ≡ form_bytes s starts lens kinds g c → r ≡ term_bytes_by s starts lens kinds groups codes refs t
  unfolding term_bytes_by
  term_bytes_lem kinds groups codes refs t w f g c r d e i j k = k ∙ rw (i, j, e, d)

pub ruleset counting =
    (text_bytes_lem, link_plain, link_spaced, value_page, value_scalar, value_string, form_category, form_value, term_bytes_lem)

-- A sum by what is added, up to 32,769.
sum_capped : (a b c : ℕ) → min a 32769 ≡ min b 32769 → min (a + c) 32769 ≡ min (b + c) 32769
sum_capped a b c e = omega arith

-- Sums over the first numbers of a table: what is still to be added gives the whole. What is added may be capped.
module _ (f : ℕ → ℕ) (table : List ℕ) (n before : ℕ) where
  pub record Adding (sum i : ℕ) : Type 0 where
    pub is : min (sum + total f (drop i (first_of table n))) 32769 ≡ min (before + total f (first_of table n)) 32769

  pub adding_more : (sum i k v x r : ℕ) → Adding sum i → i < n → k ≡ i → v ≡ get_or table k 0 → min x 32769 ≡ min (f v) 32769 → min r 32769 ≡ min (sum + x) 32769 → Adding r (i + 1)
  unfolding first_of total
  adding_more sum i k v x r a b d e g q =
      let there : get_or (first_of table n) i 0 ≡ get_or table i 0 = get_d_tabulate n (λ j. get_or table j 0) 0 i b in
      let next : drop i (first_of table n) ≡ get_or table i 0 ∷ drop (i + 1) (first_of table n) = drop-cons (first_of table n) i 0 (rw length_tabulate b) ∙ rw (add-one, there) in
      let now : min x 32769 ≡ min (f (get_or table i 0)) 32769 = g ∙ rw (e, d) in
      let rest : total f (drop i (first_of table n)) ≡ f (get_or table i 0) + total f (drop (i + 1) (first_of table n)) = ap (total f) next in
      let t = total f (drop (i + 1) (first_of table n)) in
      let whole : min (sum + (f (get_or table i 0) + t)) 32769 ≡ min (before + total f (first_of table n)) 32769 = ap (λ (y : ℕ). min (sum + y) 32769) (sym rest) ∙ a.is in
      let one : min (r + t) 32769 ≡ min (sum + x + t) 32769 = sum_capped r (sum + x) t q in
      let two : min (x + (sum + t)) 32769 ≡ min (f (get_or table i 0) + (sum + t)) 32769 = sum_capped x (f (get_or table i 0)) (sum + t) now in
      let turn : (y : ℕ) → sum + (y + t) ≡ y + (sum + t) = λ y. omega arith in
      record { is = one ∙ ap (λ (y : ℕ). min y 32769) (let y : sum + x + t ≡ x + (sum + t) = omega arith in y) ∙ two ∙ ap (λ (y : ℕ). min y 32769) (sym (turn (f (get_or table i 0)))) ∙ whole }

  pub adding_all : (sum i r : ℕ) → Adding sum i → n ≤ i → r ≡ min (0 + sum) 32769 → r ≡ min (before + total f (first_of table n)) 32769
  unfolding first_of total
  adding_all sum i r a b e =
      let none : total f (drop i (first_of table n)) ≡ 0 = ap (total f) (drop_of_length-le (first_of table n) {i = i} (rw length_tabulate b)) in
      let whole = a.is in
      omega arith

  pub record Summing (sum i : ℕ) : Type 0 where
    pub most : sum ≤ 32769
    pub is : Adding sum i

  pub summing_more : (sum i k v x r : ℕ) → Summing sum i → i < n → k ≡ i → v ≡ get_or table k 0 → x ≡ f v → r ≡ min (sum + x) 32769 → Summing r (i + 1)
  summing_more sum i k v x r a b d e g q =
      record { most = omega arith; is = adding_more sum i k v x r a.is b d e (rw g) (omega arith) }

  pub summing_all : (sum i : ℕ) → Summing sum i → n ≤ i → sum ≡ min (before + total f (first_of table n)) 32769
  summing_all sum i a b = adding_all sum i sum a.is b (let m = a.most in omega arith)

pub ruleset summing = (summing_more, summing_all)

-- A size that is made, and one that is added.
pub size_made : (f : ℕ → ℕ) (t x r : ℕ) → x ≡ f t → r ≡ min (0 + x) 32769 → r ≡ capped f t
unfolding capped
size_made f t x r e g = rw (← e) (omega arith)

capped_is : (f : ℕ → ℕ) (t x : ℕ) → x ≡ capped f t → min x 32769 ≡ min (f t) 32769
unfolding capped
capped_is f t x g = omega arith

-- Sums of sizes, where none is missing.
module _ (sizes : List ℕ) (most : ℕ) (table : List ℕ) (n before : ℕ) where
  abbrev pub Sized : Bool → ℕ → ℕ → Type 0
  Sized all sum i = all ≡ true → (f : ℕ → ℕ) → Tabled (capped f) most sizes → Adding f table n before sum i

  pub sized_more : (all b : Bool) (sum i k v w x y : ℕ) → Sized all sum i → i < n → k ≡ i → v ≡ get_or table k 0 → b ≡ (ltb v most && ltb v (length sizes)) → w ≡ v → x ≡ get_or sizes w 0 → y ≡ x → Sized (all && b) (sum + y) (i + 1)
  sized_more all b sum i k v w x y s h d e g p q z t f a =
      let both = and_true all b t in
      let there = and_true (ltb v most) (ltb v (length sizes)) (sym g ∙ both.1) in
      let size : y ≡ capped f v = z ∙ q ∙ rw p (a.at v (ltb-true v most there.0) (ltb-true v (length sizes) there.1)) in
      adding_more f table n before sum i k v y (sum + y) (s both.0 f a) h d e (capped_is f v y size) refl

  pub sized_all : (all : Bool) (sum i : ℕ) → Sized all sum i → n ≤ i → all ≡ true → SizesAdded sizes most table n before (Some sum)
  sized_all all sum i s h t =
      record { is = λ u e f a. let y : sum ≡ u = cc in adding_all f table n before sum i (min u 32769) (s t f a) h (omega arith) }

  pub sized_is : (r : Option ℕ) (sum y : ℕ) (f : ℕ → ℕ) → SizesAdded sizes most table n before r → r ≡ Some sum → y ≡ min (0 + sum) 32769 → Tabled (capped f) most sizes → y ≡ min (before + total f (first_of table n)) 32769
  sized_is r sum y f s e g a = g ∙ (let z : min (0 + sum) 32769 ≡ min sum 32769 = omega arith in z) ∙ s.is sum e f a
