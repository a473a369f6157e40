-- A draft's texts and terms with the numbers that they have in the order: they tell what they told.
use Prim.Native.Nat.{ℕ, ◌-◌, ◌<◌}
use mathlib.Core.Path.{◌≡◌, refl, ap, ap₂, ◌∙◌, subst}
use mathlib.Core.Bool.{true, false}
use mathlib.Core.List.Memᴰ
use mathlib.Core.List.{[], Memᴰ}
use native.Mathlib.Omega.{arith}
use lib.Dec.{eqb}
use lib.ListN.{length}
use borrow.Author.Tests.{ltb-true, lt-ltb, le-leb, eqb-false}
use Rattle.text.specs.Bytes.{Bytes, order_of}
use Rattle.values.specs.declared.Kind.{Kind}
use Rattle.language.proofs.Members.{both_true, by_test, all_at, get_d_mapped}
use Rattle.sorting.proofs.Ranks.{rank_most}
use Rattle.sorting.proofs.Orders.{bytes_total}
use Rattle.register_form.specs.Dictionary.{PropertyRow, Dictionary, name_of, term_of, group_of, term_code, is_category, value_from, text_in, property_in, no_property, category_of, held_of, decode_property}
use Rattle.register_form.specs.Tests.{is_plain_number, is_code, is_term, code_texts, term_texts}
use Rattle.register_form.specs.Draft.{Draft, sorted_texts, new_number, new_code, new_term, new_property, new_page, assembled}
use Rattle.register_form.proofs.Lists.{mem_at, mem_place, number_back, number_small, sorted_up, mem_sorted}
use Rattle.register_form.proofs.Numbers.{code_back}
use Rattle.register_form.proofs.Totals.{length_sorted}
use lib.ListN.{length-map}
use Rattle.register_form.proofs.Described.{Shaped, plain_below, plain_there, category_fits, value_group_fits, value_code_fits}

module _ (d : Dictionary) (k : Draft d) where
  -- Texts.
  text_sorted : (x : ℕ) → x < length d.texts → Memᴰ (text_in d x) (sorted_texts d)
  text_sorted x b = mem_sorted d.texts (mem_at d.texts x [] b)

  pub new_text : (x : ℕ) → x < length d.texts → text_in (assembled d) (new_number d x) ≡ text_in d x
  unfolding assembled new_number
  new_text x b = number_back (sorted_texts d) (sorted_up d.texts) (text_in d x) (text_sorted x b)

  pub new_below : (x : ℕ) → x < length d.texts → new_number d x < length (assembled d).texts
  unfolding assembled new_number
  new_below x b = number_small (sorted_texts d) (sorted_up d.texts) (text_in d x) (text_sorted x b)

  pub new_plain : (x : ℕ) → is_plain_number d x ≡ true → is_plain_number (assembled d) (new_number d x) ≡ true
  unfolding is_plain_number
  new_plain x h =
      let b = plain_below d x h in
      both_true (lt-ltb (new_number d x) (length (assembled d).texts) (new_below x b)) (rw (new_text x b) (plain_there d x h))

  -- A new number is a code.
  number_code : (g x : ℕ) → term_code (term_of g (new_number d x)) ≡ new_number d x
  unfolding new_number
  number_code g x =
      let f = k.few in
      code_back g (new_number d x) (omega (arith, rank_most order_of bytes_total (text_in d x) (sorted_texts d), length_sorted d.texts))

  -- Properties.
  pub new_row : (i : ℕ) → i < length d.properties → property_in (assembled d) i ≡ new_property d (property_in d i)
  unfolding assembled
  new_row i b = get_d_mapped (new_property d) d.properties i (no_property d) (no_property (assembled d)) b

  pub new_name : {p : PropertyRow} → Memᴰ p d.properties → text_in (assembled d) (new_number d p.name) ≡ text_in d p.name
  new_name {p} m = new_text p.name (plain_below d p.name (all_at (λ p. is_plain_number d p.name) k.names m))

  pub new_property_lem : {p : PropertyRow} → Memᴰ p d.properties → decode_property (assembled d) (new_property d p) ≡ decode_property d p
  unfolding decode_property
  new_property_lem {p} m = λ i. record { name = name_of (new_name m i); kind = p.kind }

  -- Terms keep their group.
  pub new_group_lem : (t : Bytes) → group_of (new_term d t) ≡ group_of t
  unfolding new_term
  new_group_lem t = refl

  pub new_kind : (t : Bytes) → is_category (new_term d t) ≡ is_category t
  new_kind t = ap (λ g. eqb g 0) (new_group_lem t)

  pub draft_shaped : Shaped d
  draft_shaped t m =
      let q = mem_place [] m in
      subst (λ (t : Bytes). term_of (group_of t) (term_code t) ≡ t) q.2 (k.shaped q.0 q.1)

  pub value_place : {t : Bytes} → Memᴰ t d.terms → is_category t ≡ false → group_of t - 1 < length d.properties
  value_place {t} m e = omega (arith, value_group_fits d k.terms m e, eqb-false (group_of t) 0 e)

  value_row : {t : Bytes} → Memᴰ t d.terms → is_category t ≡ false → property_in (assembled d) (group_of (new_term d t) - 1) ≡ new_property d (property_in d (group_of t - 1))
  value_row {t} m e = rw (new_group_lem t) (new_row (group_of t - 1) (value_place m e))

  -- Their codes are the new ones.
  pub new_category_code : {t : Bytes} → Memᴰ t d.terms → is_category t ≡ true → term_code (new_term d t) ≡ new_number d (term_code t)
  unfolding new_term
  new_category_code {t} m e = rw e (number_code (group_of t) (term_code t))

  pub new_value_code : {t : Bytes} → Memᴰ t d.terms → is_category t ≡ false → term_code (new_term d t) ≡ new_code d (property_in d (group_of t - 1)).kind (term_code t)
  unfolding new_term new_code
  new_value_code {t} m e = rw e (go (property_in d (group_of t - 1)).kind)
    where
      go : (l : Kind) → term_code (term_of (group_of t) (new_code d l (term_code t))) ≡ new_code d l (term_code t)
      go Kind.Page = number_code (group_of t) (term_code t)
      go (Kind.Scalar k) = ap term_code (draft_shaped t m)
      go Kind.String = number_code (group_of t) (term_code t)

  -- They are the categories and the values that they were.
  pub category_kept : {t : Bytes} → Memᴰ t d.terms → is_category t ≡ true → category_of (assembled d) (new_term d t) ≡ category_of d t
  unfolding category_of
  category_kept {t} m e = rw (new_category_code m e, new_text (term_code t) (plain_below d (term_code t) (category_fits d k.terms m e)))

  value_kept : (l : Kind) (c : ℕ) → is_code d l c ≡ true → value_from (assembled d).texts l (new_code d l c) ≡ value_from d.texts l c
  unfolding new_code is_code
  value_kept Kind.Page c h = rw (new_text c (ltb-true c (length d.texts) h))
  value_kept (Kind.Scalar k) c h = refl
  value_kept Kind.String c h = rw (new_text c (plain_below d c h))

  pub held_kept : {t : Bytes} → Memᴰ t d.terms → is_category t ≡ false → held_of (assembled d) (new_term d t) ≡ held_of d t
  unfolding held_of
  held_kept {t} m e =
      let row = value_row m e in
      let name : name_of (text_in (assembled d) (property_in (assembled d) (group_of (new_term d t) - 1)).name) ≡ name_of (text_in d (property_in d (group_of t - 1)).name) =
      ap (λ (r : PropertyRow). name_of (text_in (assembled d) r.name)) row ∙ ap name_of (new_name (mem_at d.properties (group_of t - 1) (no_property d) (value_place m e))) in
      let value : value_from (assembled d).texts (property_in (assembled d) (group_of (new_term d t) - 1)).kind (term_code (new_term d t)) ≡ value_from d.texts (property_in d (group_of t - 1)).kind (term_code t) =
      ap₂ (λ (l : Kind) (c : ℕ). value_from (assembled d).texts l c) (ap (λ (r : PropertyRow). r.kind) row) (new_value_code m e) ∙ value_kept (property_in d (group_of t - 1)).kind (term_code t) (value_code_fits d k.terms m e) in
      λ i. record { property = name i; value = value i }

  -- They are terms, and made of a group and a code.
  code_fits : (l : Kind) (c : ℕ) → is_code d l c ≡ true → is_code (assembled d) l (new_code d l c) ≡ true
  unfolding is_code new_code
  code_fits Kind.Page c h = lt-ltb (new_number d c) (length (assembled d).texts) (new_below c (ltb-true c (length d.texts) h))
  code_fits (Kind.Scalar k) c h = h
  code_fits Kind.String c h = new_plain c h

  pub properties_many : length (assembled d).properties ≡ length d.properties
  unfolding assembled
  properties_many = length-map d.properties (new_property d)

  pub pages_many : length (assembled d).pages ≡ length d.pages
  unfolding assembled
  pages_many = length-map d.pages (new_page d)

  pub new_fits : {t : Bytes} → Memᴰ t d.terms → is_term (assembled d) (new_term d t) ≡ true
  unfolding is_term
  new_fits {t} m =
      by_test (is_category t)
      (λ e. rw (new_kind t, e, new_category_code m e) (new_plain (term_code t) (category_fits d k.terms m e)))
      (λ e. rw (new_kind t, e, value_row m e, new_value_code m e, new_group_lem t, properties_many)
      (both_true (le-leb (group_of t) (length d.properties) (value_group_fits d k.terms m e)) (code_fits (property_in d (group_of t - 1)).kind (term_code t) (value_code_fits d k.terms m e))))

  pub new_shaped : {t : Bytes} → Memᴰ t d.terms → term_of (group_of (new_term d t)) (term_code (new_term d t)) ≡ new_term d t
  unfolding new_term
  new_shaped {t} m =
      by_test (is_category t)
      (λ e. ap₂ term_of (new_group_lem t) (new_category_code m e) ∙ rw e)
      (λ e. ap₂ term_of (new_group_lem t) (new_value_code m e) ∙ rw e)

  -- They name the texts that they named.
  code_names : (l : Kind) (c : ℕ) {x : ℕ} → Memᴰ x (code_texts d l c) → Memᴰ (new_number d x) (code_texts (assembled d) l (new_code d l c))
  unfolding code_texts new_code
  code_names Kind.Page c m = Memᴰ.head (ap (new_number d) (Memᴰ.eq_of_singleton m))
  code_names (Kind.Scalar k) c m = absurd (Memᴰ.not-nil m)
  code_names Kind.String c m = Memᴰ.head (ap (new_number d) (Memᴰ.eq_of_singleton m))

  pub new_names : {t : Bytes} {x : ℕ} → Memᴰ t d.terms → Memᴰ x (term_texts d t) → Memᴰ (new_number d x) (term_texts (assembled d) (new_term d t))
  unfolding term_texts
  new_names {t} {x} m n =
      by_test (is_category t)
      (λ e. rw (new_kind t, e, new_category_code m e) (Memᴰ.head (ap (new_number d) (Memᴰ.eq_of_singleton (rw e at n)))))
      (λ e. rw (new_kind t, e, value_row m e, new_value_code m e) (code_names (property_in d (group_of t - 1)).kind (term_code t) (rw e at n)))
