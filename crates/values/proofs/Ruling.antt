-- Laws of the table of rules: what the bits of its digits tell of a text, and its class by them.
use Prim.Native.Nat.{ℕ, suc, ◌+◌, ◌%◌, ◌^◌, ◌≤◌, ◌<◌}
use mathlib.Core.Path.{◌≡◌, refl, sym, ap, ap₂, ◌∙◌}
use mathlib.Core.Bool.{Bool, true, false, cond, not, ◌&&◌, ◌||◌, and_assoc, and-true, and-false, and-eq-true_iff, false≢true}
use mathlib.Core.List.{List, [], ◌∷◌}
use native.Mathlib.Numerals.{add-one}
use native.Mathlib.Omega.{arith}
use lib.Bits.{bit_and, bit_or, or_lt, or_add_and, and_le_l, and_le_r, or_mod}
use lib.Dec.{ltb, eqb}
use lib.ListN.{length, get_or, drop, drop_of_length-le}
use lib.Pow.{pow_pos}
use lib.Seq.{drop-cons}
use borrow.Author.Tests.{lt-ltb, le-ltb, ltb-true, ltb-false, not-true, not-false}
use Rattle.text.specs.Bytes.{Bytes, all, is_blank}
use Rattle.text.specs.Class.{one_of, is_value_byte}
use Rattle.text.proofs.Laws.{any_three}
use Rattle.text.proofs.Tables.{get_d_tabulate}
use Rattle.text.proofs.Keys.{Small}
use Rattle.names.specs.Codes.{is_plain}
use Rattle.names.specs.Names.{composed, is_form, has_name_shape, is_sized, first, last, is_composed_name}
use Rattle.names.specs.Steps.{is_letter_byte, paired_from}
use Rattle.names.proofs.Naming.{composed_told}
use Rattle.names.proofs.OwnForm.{own_told, own_plain, plain_letter_lem}
use Rattle.names.proofs.Composed.{plain_name, letter_name}
use Rattle.values.specs.Names.{is_value}
use Rattle.values.specs.Answers.{has_bare_ends}
use Rattle.values.specs.ByteRules.{rule_of, rule_table, are_below, RuledOut, name_class}
use Rattle.values.proofs.Spelled.{name_byte}

-- Numbers put together are below a power of two where both are.
or_below : (k a b : ℕ) → ltb (bit_or a b) (2 ^ k) ≡ (ltb a (2 ^ k) && ltb b (2 ^ k))
or_below k a b = go (ltb a (2 ^ k)) (ltb b (2 ^ k)) refl refl
  where
    sum : bit_or a b + bit_and a b ≡ a + b
    sum = or_add_and a b

    go : (p q : Bool) → ltb a (2 ^ k) ≡ p → ltb b (2 ^ k) ≡ q → ltb (bit_or a b) (2 ^ k) ≡ (p && q)
    go true true e f = lt-ltb (bit_or a b) (2 ^ k) (or_lt k a b (ltb-true a (2 ^ k) e) (ltb-true b (2 ^ k) f))
    go true false e f = le-ltb (bit_or a b) (2 ^ k) (omega (arith, ltb-false b (2 ^ k) f, sum, and_le_l a b))
    go false q e f = le-ltb (bit_or a b) (2 ^ k) (omega (arith, ltb-false a (2 ^ k) e, sum, and_le_r a b))

-- The bits put together up to a place, and what is behind it.
module _ (t : List ℕ) (s : Bytes) where
  abbrev pub Ruling : ℕ → ℕ → Type 0
  Ruling out i = (k : ℕ) → (ltb (out % 16) (2 ^ k) && are_below t k (drop i s)) ≡ are_below t k s

  pub ruled_none : Ruling 0 0
  ruled_none k = rw (lt-ltb 0 (2 ^ k) (pow_pos k))

  module _ (i : ℕ) where
    below_step : i < length s → (k : ℕ) → are_below t k (drop i s) ≡ (ltb (get_or t (get_or s i 0) 0 % 16) (2 ^ k) && are_below t k (drop (i + 1) s))
    unfolding are_below all
    below_step l k = rw (add-one i, drop-cons s i 0 l)

    below_end : length s ≤ i → (k : ℕ) → are_below t k (drop i s) ≡ true
    unfolding are_below all
    below_end l k = rw (drop_of_length-le s l)

    pub ruled_more : (out w d : ℕ) → i < length s → w ≡ get_or s i 0 → d ≡ get_or t w 0 → Ruling out i → Ruling (bit_or out d) (i + 1)
    ruled_more out w d l e f h k =
        let g : d ≡ get_or t (get_or s i 0) 0 = f ∙ ap (λ (n : ℕ). get_or t n 0) e in
        ap (λ (b : Bool). b && are_below t k (drop (i + 1) s)) (ap (λ (n : ℕ). ltb n (2 ^ k)) (or_mod out d 4) ∙ or_below k (out % 16) (d % 16))
        ∙ and_assoc (ltb (out % 16) (2 ^ k)) (ltb (d % 16) (2 ^ k)) (are_below t k (drop (i + 1) s))
        ∙ ap (λ (b : Bool). ltb (out % 16) (2 ^ k) && b) (rw g (sym (below_step l k)))
        ∙ h k

    pub ruled_all : (out : ℕ) → length s ≤ i → Ruling out i → RuledOut t s (out % 16)
    ruled_all out l h =
        record { below = λ k. sym (and-true (ltb (out % 16) (2 ^ k))) ∙ ap (λ (b : Bool). ltb (out % 16) (2 ^ k) && b) (sym (below_end l k)) ∙ h k }

-- What the table has for a byte.
digit_is : (b : ℕ) → b < 256 → get_or rule_table b 0 % 16 ≡ rule_of b
unfolding rule_table rule_of
digit_is b l = ap (λ (n : ℕ). n % 16) (get_d_tabulate 256 (λ n. 48 + rule_of n) 0 b l) ∙ go (is_plain b) (is_letter_byte b) (is_value_byte b)
  where
    go : (p q r : Bool) → ◌≡◌ {A = ℕ} ((48 + cond p 0 (cond q 1 (cond r 2 4))) % 16) (cond p 0 (cond q 1 (cond r 2 4)))
    go true q r = refl
    go false true r = refl
    go false false true = refl
    go false false false = refl

plain_digit : (b : ℕ) → b < 256 → ltb (get_or rule_table b 0 % 16) 1 ≡ is_plain b
unfolding rule_of
plain_digit b l = rw (digit_is b l) (go (is_plain b) (is_letter_byte b) (is_value_byte b))
  where
    go : (p q r : Bool) → ltb (cond p 0 (cond q 1 (cond r 2 4))) 1 ≡ p
    go true q r = refl
    go false true r = refl
    go false false true = refl
    go false false false = refl

letter_digit : (b : ℕ) → b < 256 → ltb (get_or rule_table b 0 % 16) 2 ≡ is_letter_byte b
unfolding rule_of
letter_digit b l = rw (digit_is b l) (go (is_plain b) (is_letter_byte b) (is_value_byte b) refl refl)
  where
    go : (p q r : Bool) → is_plain b ≡ p → is_letter_byte b ≡ q → ltb (cond p 0 (cond q 1 (cond r 2 4))) 2 ≡ q
    go true q r e f = sym (plain_letter_lem b e) ∙ f
    go false true r e f = refl
    go false false true e f = refl
    go false false false e f = refl

value_digit : (b : ℕ) → b < 256 → ltb (get_or rule_table b 0 % 16) 4 ≡ is_value_byte b
unfolding rule_of
value_digit b l = rw (digit_is b l) (go (is_plain b) (is_letter_byte b) (is_value_byte b) refl refl refl)
  where
    go : (p q r : Bool) → is_plain b ≡ p → is_letter_byte b ≡ q → is_value_byte b ≡ r → ltb (cond p 0 (cond q 1 (cond r 2 4))) 4 ≡ r
    go true q r e f g = sym (name_byte b (plain_name b e)) ∙ g
    go false true r e f g = sym (name_byte b (letter_name b f)) ∙ g
    go false false true e f g = refl
    go false false false e f g = refl

all_ext : (p q : ℕ → Bool) → ((b : ℕ) → b < 256 → p b ≡ q b) → (s : Bytes) → Small s → all p s ≡ all q s
unfolding all
all_ext p q h [] t = refl
all_ext p q h (b ∷ s) t = ap₂ ◌&&◌ (h b (t 0)) (all_ext p q h s (λ i. t (suc i)))

letters_values : (s : Bytes) → all is_letter_byte s ≡ true → all is_value_byte s ≡ true
unfolding all
letters_values [] h = refl
letters_values (b ∷ s) h =
    let e = (and-eq-true_iff (is_letter_byte b) (all is_letter_byte s)).0 h in
    rw (name_byte b (letter_name b e.0), letters_values s e.1)

-- What the bits tell of a text.
module _ (t : List ℕ) (s : Bytes) (out : ℕ) (e : t ≡ rule_table) (small : Small s) (r : RuledOut t s out) where
  ruled_plain : ltb out 1 ≡ all is_plain s
  unfolding are_below
  ruled_plain = r.below 0 ∙ rw e (all_ext (λ b. ltb (get_or rule_table b 0 % 16) 1) is_plain plain_digit s small)

  ruled_letters : ltb out 2 ≡ all is_letter_byte s
  unfolding are_below
  ruled_letters = r.below 1 ∙ rw e (all_ext (λ b. ltb (get_or rule_table b 0 % 16) 2) is_letter_byte letter_digit s small)

  ruled_value : ltb out 4 ≡ all is_value_byte s
  unfolding are_below
  ruled_value = r.below 2 ∙ rw e (all_ext (λ b. ltb (get_or rule_table b 0 % 16) 4) is_value_byte value_digit s small)

-- A text of class 2 is a composed name.
pub class_two : (s : Bytes) → eqb (name_class s) 2 ≡ is_composed_name s
class_two s = go (is_composed_name s) (is_value s)
  where
    go : (p q : Bool) → eqb (cond p 2 (cond q 1 0)) 2 ≡ p
    go true q = refl
    go false true = refl
    go false false = refl

begun_value : (a b c : Bool) → not (a || b || c) ≡ true → not b ≡ true
begun_value true b c h = absurd (false≢true h)
begun_value false true c h = absurd (false≢true h)
begun_value false false c h = refl

named : (z n o p q : Bool) → ((z && o && p && q) && n) ≡ ((z && (p && q)) && (n && o))
named true true true p q = rw (and-true (p && q))
named true true false p q = sym (and-false (p && q))
named true false o p q = rw (and-false (o && p && q), and-false (p && q))
named false n o p q = refl

sorted : (z n o p q : Bool) → (z && n && o && p && q) ≡ ((z && (p && q)) && (n && o))
sorted true true true p q = sym (and-true (p && q))
sorted true true false p q = sym (and-false (p && q))
sorted true false o p q = sym (and-false (p && q))
sorted false n o p q = refl

-- The class of a text, by what its parts answer.
module _ (s : Bytes) (a d : Bool) (e : a ≡ is_sized s) (g : d ≡ has_bare_ends s) where
  shape_sorted : (n : Bool) → (has_name_shape s && n) ≡ ((a && d) && (n && not (one_of "!~+" (first s))))
  unfolding has_name_shape
  shape_sorted n = rw (e, g) (named (is_sized s) n (not (one_of "!~+" (first s))) (not (is_blank (first s))) (not (is_blank (last s))))

  value_sorted : is_value s ≡ ((a && d) && (all is_value_byte s && not (eqb (first s) 126)))
  unfolding is_value
  value_sorted = rw (e, g) (sorted (is_sized s) (all is_value_byte s) (not (eqb (first s) 126)) (not (is_blank (first s))) (not (is_blank (last s))))

  abbrev begun : ℕ → Bool
  begun x = not (eqb x 33 || eqb x 126 || eqb x 43)

  name_sorted : is_composed_name s ≡ ((a && d) && (is_form s (composed s) && not (one_of "!~+" (first s))))
  name_sorted = sym (composed_told s (has_name_shape s) refl (is_form s (composed s)) refl) ∙ shape_sorted (is_form s (composed s))

  pub class_unfit : not (a && d) ≡ true → 0 ≡ name_class s
  class_unfit h = rw (name_sorted, value_sorted, not-true (a && d) h)

  module _
      (x out : ℕ)
      (h : not (a && d) ≡ false)
      (f : x ≡ first s)
      (small : Small s)
      (t : List ℕ)
      (r : RuledOut t s out)
      (p : t ≡ rule_table)
    where
      name_told : (q : Bool) → is_form s (composed s) ≡ q → is_composed_name s ≡ (q && begun x)
      name_told q k = name_sorted ∙ rw (not-false (a && d) h, k, ← f, any_three (eqb x) 33 126 43)

      value_told : (q : Bool) → (ltb out 4 && not (eqb x 126)) ≡ q → is_value s ≡ q
      value_told q k = value_sorted ∙ rw (not-false (a && d) h, ← ruled_value t s out p small r, ← f) k

      pub class_plain : (begun x && ltb out 1) ≡ true → 2 ≡ name_class s
      class_plain k =
          let u = (and-eq-true_iff (begun x) (ltb out 1)).0 k in
          rw (name_told true (sym (own_plain s (ltb out 1) (ruled_plain t s out p small r) u.1)), u.0)

      module _ (k : (begun x && ltb out 2) ≡ true) (q : Bool) (w : q ≡ paired_from 0 s) where
        u : (begun x ≡ true) × (ltb out 2 ≡ true)
        u = (and-eq-true_iff (begun x) (ltb out 2)).0 k

        letters : all is_letter_byte s ≡ true
        letters = sym (ruled_letters t s out p small r) ∙ u.1

        form : is_form s (composed s) ≡ q
        form = sym (own_told s true q (sym letters) w)

        pub class_paired : q ≡ true → 2 ≡ name_class s
        class_paired e = rw (name_told true (form ∙ e), u.0)

        pub class_unpaired : q ≡ false → 1 ≡ name_class s
        class_unpaired e =
            let v : is_value s ≡ true = value_sorted ∙ rw (not-false (a && d) h, letters_values s letters, ← f) (begun_value (eqb x 33) (eqb x 126) (eqb x 43) u.0) in
            rw (name_told false (form ∙ e), v)

      no_name : (begun x && ltb out 2) ≡ false → is_composed_name s ≡ false
      no_name k = go (begun x) (ltb out 2) refl refl
        where
          go : (b l : Bool) → begun x ≡ b → ltb out 2 ≡ l → is_composed_name s ≡ false
          go true true e g = absurd (false≢true (sym k ∙ rw (e, g)))
          go true false e g = name_told false (sym (own_told s false (paired_from 0 s) (sym g ∙ ruled_letters t s out p small r) refl))
          go false l e g = name_told (is_form s (composed s)) refl ∙ rw e (and-false (is_form s (composed s)))

      pub class_value : (begun x && ltb out 2) ≡ false → (ltb out 4 && not (eqb x 126)) ≡ true → 1 ≡ name_class s
      class_value k l = rw (no_name k, value_told true l)

      pub class_neither : (begun x && ltb out 2) ≡ false → (ltb out 4 && not (eqb x 126)) ≡ false → 0 ≡ name_class s
      class_neither k l = rw (no_name k, value_told false l)
