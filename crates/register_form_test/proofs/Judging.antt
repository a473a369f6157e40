-- What is judged of a term is what is to be tested of it, where the table of classes is right.
use Prim.Native.Nat.{ℕ, ◌-◌, ◌≤◌, ◌<◌}
use mathlib.Core.Path.{◌≡◌, refl, sym}
use mathlib.Core.Bool.{Bool, true, false, cond, ◌&&◌, or-false, true≢false}
use mathlib.Core.List.{List, [], ◌∷◌}
use native.Mathlib.Omega.{arith}
use lib.Dec.{ltb, leb, eqb}
use lib.ListN.{length, get_or}
use borrow.Author.Tests.{ltb-true, leb-true, eqb-false, lt-ltb, le-leb, ne_eqb}
use Rattle.text.specs.Bytes.{Bytes, any}
use Rattle.values.specs.declared.Kind.{Kind}
use Rattle.names.specs.Names.{is_composed_name}
use Rattle.values.specs.Names.{is_value}
use Rattle.values.specs.Values.{link, in_range}
use Rattle.values.specs.Spelling.{spell_scalar, spell_identifier, spelling}
use Rattle.names.proofs.Composed.{composed_named}
use Rattle.values.proofs.Spelled.{value_short}
use Rattle.language.specs.Rules.{is_identifier, is_storable}
use Rattle.sorting.proofs.Canonical.{left_of, right_of}
use Rattle.register_form.specs.Dictionary.{name_of, identifier_of, group_of, term_code, value_from, text_in, property_in, category_of, held_of}
use Rattle.register_form.specs.Form.{property_count, text_count, property_at, term_at, text_at, dictionary_in}
use Rattle.register_form.specs.Tests.{is_labelled, is_plain, is_plain_number, is_code, is_term, code_texts, term_texts, keeps_term, term_bytes}
use Rattle.register_form.proofs.Laying.{Laid}
use Rattle.register_form_test.specs.Stages.{class_of, no_text, spelled_length, judged_in, judged_text, judged_value, judged_group, judged_term}
use Rattle.register_form_test.specs.declared.Judged.{Judged}
use Rattle.register_form_test.proofs.Classes.{class_link, class_category, class_string, class_spaced, length_name, length_spelled, storable_link}
use Rattle.register_form_test.proofs.Known.{text_count_lem, property_count_lem, text_in_lem, property_in_lem, plain_number, text_length_lem}

-- A term is rightly judged: whether it keeps the rules, which texts it names and how many bytes it counts for.
pub record Right (j : Judged) (ok : Bool) (texts : List ℕ) (n : ℕ) : Type 0 where
  pub is : j.ok ≡ ok
  pub names : ok ≡ true → (x : ℕ) → x < 65535 → eqb x j.text ≡ any (eqb x) texts
  pub bytes : ok ≡ true → j.bytes ≡ n

right_none : (texts : List ℕ) (n m : ℕ) → Right (no_text false m) false texts n
unfolding no_text
right_none texts n m = record { is = refl; names = λ e x b. absurd (true≢false (sym e)); bytes = λ e. absurd (true≢false (sym e)) }

right_plain : (ok : Bool) (n m : ℕ) → m ≡ n → Right (no_text ok m) ok [] n
unfolding no_text any
right_plain ok n m e = record { is = refl; names = λ k x b. ne_eqb x 65535 (λ i. let j : x ≡ 65535 = i in omega arith); bytes = λ k. e }

-- A test that a bound follows from takes it in.
short : (b : Bool) (n : ℕ) → (b ≡ true → n ≤ 64) → (b && leb n 64) ≡ b
short true n h = le-leb n 64 (h refl)
short false n h = refl

module _
    (h : Bytes)
    (laid : Laid h)
    (labels : (x : ℕ) → x < text_count h → is_labelled (text_at h x) ≡ true)
    (classes : List ℕ)
    (right : (x : ℕ) → x < text_count h → get_or classes x 0 ≡ class_of (text_at h x))
  where
    -- a term that names text c
    right_in : (low high c : ℕ) (b : Bool) (n : ℕ) → c < text_count h → (leb low (class_of (text_at h c)) && leb (class_of (text_at h c)) high) ≡ b → (b ≡ true → cond (eqb (class_of (text_at h c)) 3) (length (text_at h c)) (length (text_at h c) - 1) ≡ n) → Right (judged_in h low high (get_or classes c 0) c) (b && leb n 64) (c ∷ []) n
    unfolding judged_in spelled_length any
    right_in low high c b n k e f =
        rw (right c k, e, ← text_length_lem h laid c k)
        (record {
          is = go b refl;
          names = λ g x l. sym (or-false (eqb x c));
          bytes = λ g. f (left_of b (leb n 64) g);
        })
      where
        go : (a : Bool) → b ≡ a → (b && leb (cond (eqb (class_of (text_at h c)) 3) (length (text_at h c)) (length (text_at h c) - 1)) 64) ≡ (b && leb n 64)
        go true e = rw (e, f e)
        go false e = rw e

    -- the same, by the code
    right_text : (low high c : ℕ) (ok : Bool) (n : ℕ) → (ltb c (text_count h) ≡ false → ok ≡ false) → (c < text_count h → Right (judged_in h low high (get_or classes c 0) c) ok (c ∷ []) n) → Right (judged_text h classes low high c) ok (c ∷ []) n
    unfolding judged_text
    right_text low high c ok n out within = go (ltb c (text_count h)) refl
      where
        go : (b : Bool) → ltb c (text_count h) ≡ b → Right (cond (ltb c (text_count h)) (judged_in h low high (get_or classes c 0) c) (no_text false 0)) ok (c ∷ []) n
        go true e = rw e (within (ltb-true c (text_count h) e))
        go false e = rw (e, out e) (right_none (c ∷ []) n 0)

    plain_length : (c : ℕ) → c < text_count h → is_plain (text_at h c) ≡ true → cond (eqb (class_of (text_at h c)) 3) (length (text_at h c)) (length (text_at h c) - 1) ≡ length (name_of (text_at h c))
    plain_length c k p = rw (class_spaced (text_at h c), p) (sym (length_name (text_at h c) (labels c k) p))

    -- a plain text that keeps a rule by which it is short
    module _ (low high : ℕ) (q : Bytes → Bool) (fact : (t : Bytes) → (leb low (class_of t) && leb (class_of t) high) ≡ (is_plain t && q (name_of t))) (small : (s : Bytes) → q s ≡ true → length s ≤ 64) where
      right_name : (c : ℕ) → Right (judged_text h classes low high c) (is_plain_number (dictionary_in h) c && q (name_of (text_in (dictionary_in h) c))) (c ∷ []) (length (name_of (text_in (dictionary_in h) c)))
      right_name c =
          right_text low high c (is_plain_number (dictionary_in h) c && q (name_of (text_in (dictionary_in h) c))) (length (name_of (text_in (dictionary_in h) c)))
          (λ e. rw (plain_number h c, e))
          (λ k.
          let name = name_of (text_at h c) in
          let ok = is_plain (text_at h c) && q name in
          rw (plain_number h c, lt-ltb c (text_count h) k, text_in_lem h c k, ← short ok (length name) (λ e. small name (right_of (is_plain (text_at h c)) (q name) e)))
          (right_in low high c ok (length name) k (fact (text_at h c)) (λ e. plain_length c k (left_of (is_plain (text_at h c)) (q name) e))))

    right_link : (c : ℕ) → Right (judged_text h classes 2 3 c) (ltb c (length (dictionary_in h).texts) && is_storable (link (identifier_of (text_in (dictionary_in h) c)))) (c ∷ []) (length (spell_identifier (identifier_of (text_in (dictionary_in h) c))))
    right_link c =
        rw (text_count_lem h)
        (right_text 2 3 c (ltb c (text_count h) && is_storable (link (identifier_of (text_in (dictionary_in h) c)))) (length (spell_identifier (identifier_of (text_in (dictionary_in h) c))))
        (λ e. rw e)
        (λ k.
        rw (lt-ltb c (text_count h) k, text_in_lem h c k, storable_link (text_at h c))
        (right_in 2 3 c (is_identifier (identifier_of (text_at h c))) (length (spell_identifier (identifier_of (text_at h c)))) k (class_link (text_at h c)) (λ e. sym (length_spelled (text_at h c) (labels c k) e)))))

    right_value : (k : Kind) (c : ℕ) → Right (judged_value h classes k c) (is_code (dictionary_in h) k c && is_storable (value_from (dictionary_in h).texts k c)) (code_texts (dictionary_in h) k c) (length (spelling (value_from (dictionary_in h).texts k c)))
    unfolding judged_value is_code is_storable code_texts spelling
    right_value Kind.Page c = right_link c
    right_value (Kind.Scalar k) c = right_plain (in_range k c) (length (spell_scalar k c)) (length (spell_scalar k c)) refl
    right_value Kind.String c = right_name 1 2 is_value class_string value_short c

    -- a value of the property of a group
    right_property : (g c : ℕ) → (g ≡ 0 → ⊥) → Right (cond (leb g (property_count h)) (judged_value h classes (property_at h (g - 1)).kind c) (no_text false 0)) (leb g (length (dictionary_in h).properties) && is_code (dictionary_in h) (property_in (dictionary_in h) (g - 1)).kind c && is_storable (value_from (dictionary_in h).texts (property_in (dictionary_in h) (g - 1)).kind c)) (code_texts (dictionary_in h) (property_in (dictionary_in h) (g - 1)).kind c) (length (spelling (value_from (dictionary_in h).texts (property_in (dictionary_in h) (g - 1)).kind c)))
    right_property g c some = rw (property_count_lem h) (go (leb g (property_count h)) refl)
      where
        go : (b : Bool) → leb g (property_count h) ≡ b → Right (cond (leb g (property_count h)) (judged_value h classes (property_at h (g - 1)).kind c) (no_text false 0)) (leb g (property_count h) && is_code (dictionary_in h) (property_in (dictionary_in h) (g - 1)).kind c && is_storable (value_from (dictionary_in h).texts (property_in (dictionary_in h) (g - 1)).kind c)) (code_texts (dictionary_in h) (property_in (dictionary_in h) (g - 1)).kind c) (length (spelling (value_from (dictionary_in h).texts (property_in (dictionary_in h) (g - 1)).kind c)))
        go true e = rw (e, property_in_lem h (g - 1) (omega (arith, leb-true g (property_count h) e, some))) (right_value (property_at h (g - 1)).kind c)
        go false e = rw e (right_none (code_texts (dictionary_in h) (property_in (dictionary_in h) (g - 1)).kind c) (length (spelling (value_from (dictionary_in h).texts (property_in (dictionary_in h) (g - 1)).kind c))) 0)

    -- a term by its group and its code
    right_group : (t : Bytes) → Right (judged_group h classes (group_of t) (term_code t)) (is_term (dictionary_in h) t && keeps_term (dictionary_in h) t) (term_texts (dictionary_in h) t) (term_bytes (dictionary_in h) t)
    unfolding judged_group is_term keeps_term term_texts term_bytes category_of held_of
    right_group t = go (eqb (group_of t) 0) refl
      where
        go : (b : Bool) → eqb (group_of t) 0 ≡ b → Right (judged_group h classes (group_of t) (term_code t)) (is_term (dictionary_in h) t && keeps_term (dictionary_in h) t) (term_texts (dictionary_in h) t) (term_bytes (dictionary_in h) t)
        go true e = rw e (right_name 2 2 is_composed_name class_category (λ s n. (composed_named s n).short) (term_code t))
        go false e = rw e (right_property (group_of t) (term_code t) (eqb-false (group_of t) 0 e))

    pub right_term : (f : ℕ) → Right (judged_term h classes f) (is_term (dictionary_in h) (term_at h f) && keeps_term (dictionary_in h) (term_at h f)) (term_texts (dictionary_in h) (term_at h f)) (term_bytes (dictionary_in h) (term_at h f))
    unfolding judged_term
    right_term f = right_group (term_at h f)
