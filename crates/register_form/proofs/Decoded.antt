-- The dictionary of a register describes it.
use Prim.Native.Nat.{ℕ, suc, ◌-◌, ◌≤◌, ◌<◌}
use mathlib.Core.Path.{◌≡◌, refl, ap, ap₂, ◌∙◌}
use mathlib.Core.Bool.{true, false, cond}
use mathlib.Core.List.Memᴰ
use mathlib.Core.List.{List, [], ◌∷◌, ◌++◌, map, flat_map, map-map, Memᴰ}
use native.Mathlib.Omega.{arith}
use lib.ListN.{length, get_or}
use borrow.Author.Tests.{ne_eqb}
use Rattle.text.specs.Bytes.{Bytes, order_of}
use Rattle.values.specs.declared.Kind.{Kind}
use Rattle.values.specs.Values.{kind_of}
use Rattle.language.specs.Register.{Property, Held, Page, Register}
use Rattle.language.proofs.Members.{map_itself, get_d_mapped}
use Rattle.language.proofs.Rules.{Ruled}
use Rattle.sorting.specs.Ascending.{ascends, rank}
use Rattle.register_form.specs.Dictionary.{PropertyRow, space_of, name_of, term_code, group_of, is_category, value_from, text_in, term_in, property_in, no_property, category_of, held_of, categories_in, values_in, decode_property, decode_page, decode}
use Rattle.register_form.specs.Encoding.{plain_text, identifier_text, value_texts, page_texts, texts_in, texts_of, place_among, value_code, category_term, value_term, page_terms, terms_of, encode_property, encode_page, encode}
use Rattle.register_form.proofs.Lists.{mem_flat, mem_at, number_back, number_small, sorted_up, mem_sorted}
use Rattle.register_form.proofs.Codes.{space_back, name_back, value_back, code_small}
use Rattle.register_form.proofs.Numbers.{code_back}
use Rattle.register_form.proofs.Rules.{Limits, undeclared, value_kept, value_kind, place_known, texts_few}

sub_one : (i : ℕ) → suc i - 1 ≡ i
sub_one i = omega arith

held_eq : (a b : Held) → a.property ≡ b.property → a.value ≡ b.value → a ≡ b
held_eq a b p q = λ i. record { property = p i; value = q i }

page_eq : (a b : Page) → a.identifier.namespace ≡ b.identifier.namespace → a.identifier.article ≡ b.identifier.article → a.categories ≡ b.categories → a.values ≡ b.values → a ≡ b
page_eq a b n x c v = λ i. record { identifier = record { namespace = n i; article = x i }; categories = c i; values = v i }

-- The texts and terms of a register are in its lists.
module _ (R : Register) where
  pub property_text : {p : Property} → Memᴰ p R.properties → Memᴰ (plain_text p.name) (texts_of R)
  unfolding texts_of texts_in
  property_text m = mem_sorted (texts_in R) (Memᴰ.append_left (flat_map page_texts R.pages) (Memᴰ.map (λ p. plain_text p.name) m))

  on_page_lem : {p : Page} {t : Bytes} → Memᴰ p R.pages → Memᴰ t (page_texts p) → Memᴰ t (texts_of R)
  unfolding texts_of texts_in
  on_page_lem m n = mem_sorted (texts_in R) (Memᴰ.append_right (map (λ p. plain_text p.name) R.properties) (mem_flat page_texts m n))

  pub page_text : {p : Page} → Memᴰ p R.pages → Memᴰ (identifier_text p.identifier) (texts_of R)
  unfolding page_texts
  page_text m = on_page_lem m (Memᴰ.head refl)

  pub category_text : {p : Page} {x : Bytes} → Memᴰ p R.pages → Memᴰ x p.categories → Memᴰ (plain_text x) (texts_of R)
  unfolding page_texts
  category_text {p} m n = on_page_lem m (Memᴰ.tail (Memᴰ.append_left (flat_map (λ h. value_texts h.value) p.values) (Memᴰ.map plain_text n)))

  pub value_text : {p : Page} {h : Held} → Memᴰ p R.pages → Memᴰ h p.values → (t : Bytes) → Memᴰ t (value_texts h.value) → Memᴰ t (texts_of R)
  unfolding page_texts
  value_text {p} m n t k = on_page_lem m (Memᴰ.tail (Memᴰ.append_right (map plain_text p.categories) (mem_flat (λ h. value_texts h.value) n k)))

  pub page_term : {p : Page} {t : Bytes} → Memᴰ p R.pages → Memᴰ t (page_terms R p) → Memᴰ t (terms_of R)
  unfolding terms_of
  page_term m n = mem_sorted (flat_map (page_terms R) R.pages) (mem_flat (page_terms R) m n)

  pub texts_up : ascends order_of (texts_of R) ≡ true
  unfolding texts_of
  texts_up = sorted_up (texts_in R)

  pub terms_up_lem : ascends order_of (terms_of R) ≡ true
  unfolding terms_of
  terms_up_lem = sorted_up (flat_map (page_terms R) R.pages)

  -- What a number of the dictionary tells.
  pub text_there : {t : Bytes} → Memᴰ t (texts_of R) → text_in (encode R) (rank order_of t (texts_of R)) ≡ t
  unfolding encode
  text_there {t} m = number_back (texts_of R) texts_up t m

  pub term_there : {t : Bytes} → Memᴰ t (terms_of R) → term_in (encode R) (rank order_of t (terms_of R)) ≡ t
  unfolding encode
  term_there {t} m = number_back (terms_of R) terms_up_lem t m

  property_there : (i : ℕ) (d : Property) → i < length R.properties → property_in (encode R) i ≡ encode_property R (get_or R.properties i d)
  unfolding encode
  property_there i d h = get_d_mapped (encode_property R) R.properties i d (no_property (encode R)) h

  property_name : {q : Property} → Memᴰ q R.properties → name_of (text_in (encode R) (encode_property R q).name) ≡ q.name
  unfolding encode_property
  property_name {q} m = rw (text_there (property_text m), name_back [] q.name)

  property_back : {q : Property} → Memᴰ q R.properties → decode_property (encode R) (encode_property R q) ≡ q
  unfolding decode_property encode_property
  property_back {q} m = λ i. record { name = property_name m i; kind = q.kind }

  -- A term's first byte tells categories from values.
  pub category_group : (x : Bytes) → is_category (category_term R x) ≡ true
  unfolding category_term
  category_group x = refl

  pub value_group : (h : Held) → is_category (value_term R h) ≡ false
  unfolding value_term
  value_group h = ne_eqb (suc (place_among R.properties h.property)) 0 (λ e. omega arith)

  head_category : {A : Type 0} (x : Bytes) (a b : A) → cond (is_category (category_term R x)) a b ≡ a
  head_category x a b = rw (category_group x)

  head_value : {A : Type 0} (h : Held) (a b : A) → cond (is_category (value_term R h)) a b ≡ b
  head_value h a b = rw (value_group h)

  module _ (k : Ruled R) (w : Limits R) where
    few : length (texts_of R) < 65536
    few = omega (arith, texts_few R w)

    -- What a term's bytes tell of a category and of a value.
    pub category_code : {p : Page} {x : Bytes} → Memᴰ p R.pages → Memᴰ x p.categories → term_code (category_term R x) ≡ rank order_of (plain_text x) (texts_of R)
    unfolding category_term
    category_code {p} {x} m n = code_back 0 (rank order_of (plain_text x) (texts_of R)) (omega (arith, number_small (texts_of R) texts_up (plain_text x) (category_text m n), few))

    module _ {p : Page} {h : Held} (m : Memᴰ p R.pages) (n : Memᴰ h p.values) where
      there : (place_among R.properties h.property < length R.properties) × ((get_or R.properties (place_among R.properties h.property) undeclared).name ≡ h.property) × ((get_or R.properties (place_among R.properties h.property) undeclared).kind ≡ kind_of h.value)
      there = place_known R.properties h.property (kind_of h.value) undeclared (value_kind R k m n)

      row : property_in (encode R) (group_of (value_term R h) - 1) ≡ encode_property R (get_or R.properties (place_among R.properties h.property) undeclared)
      unfolding value_term
      row = rw (sub_one (place_among R.properties h.property)) (property_there (place_among R.properties h.property) undeclared there.0)

      pub value_code_lem : term_code (value_term R h) ≡ value_code (texts_of R) h.value
      unfolding value_term
      value_code_lem = code_back (suc (place_among R.properties h.property)) (value_code (texts_of R) h.value) (code_small (texts_of R) texts_up h.value (value_kept R k m n) few (value_text m n))

      pub value_row_kind : (property_in (encode R) (group_of (value_term R h) - 1)).kind ≡ kind_of h.value
      unfolding encode_property
      value_row_kind = ap (λ (r : PropertyRow). r.kind) row ∙ there.2

      pub value_group_most : group_of (value_term R h) ≤ length R.properties
      unfolding value_term
      value_group_most = there.0

      value_name : name_of (text_in (encode R) (property_in (encode R) (group_of (value_term R h) - 1)).name) ≡ h.property
      value_name = ap (λ (r : PropertyRow). name_of (text_in (encode R) r.name)) row ∙ property_name (mem_at R.properties (place_among R.properties h.property) undeclared there.0) ∙ there.1

      value_there : value_from (encode R).texts (property_in (encode R) (group_of (value_term R h) - 1)).kind (term_code (value_term R h)) ≡ h.value
      unfolding encode
      value_there =
          ap₂ (λ (l : Kind) (c : ℕ). value_from (texts_of R) l c) value_row_kind value_code_lem
          ∙ value_back (texts_of R) texts_up h.value (value_kept R k m n) (value_text m n)

      held_back : held_of (encode R) (value_term R h) ≡ h
      unfolding held_of
      held_back = held_eq _ _ value_name value_there

    category_back : {p : Page} {x : Bytes} → Memᴰ p R.pages → Memᴰ x p.categories → category_of (encode R) (category_term R x) ≡ x
    unfolding category_of
    category_back {p} {x} m n = rw (category_code m n, text_there (category_text m n), name_back [] x)

    -- A page's terms tell its categories and its values.
    categories_back : {p : Page} → Memᴰ p R.pages → (l : List Bytes) (v : List Held) → ((x : Bytes) → Memᴰ x l → Memᴰ x p.categories) → categories_in (encode R) (map (category_term R) l ++ map (value_term R) v) ≡ l
    unfolding categories_in
    categories_back {p} m (x ∷ l) v s = head_category x (category_of (encode R) (category_term R x) ∷ categories_in (encode R) (map (category_term R) l ++ map (value_term R) v)) (categories_in (encode R) (map (category_term R) l ++ map (value_term R) v)) ∙ ap₂ (λ (a : Bytes) (r : List Bytes). a ∷ r) (category_back m (s x (Memᴰ.head refl))) (categories_back m l v (λ y n. s y (Memᴰ.tail n)))
    categories_back m [] [] s = refl
    categories_back m [] (h ∷ v) s = head_value h (category_of (encode R) (value_term R h) ∷ categories_in (encode R) (map (value_term R) v)) (categories_in (encode R) (map (value_term R) v)) ∙ categories_back m [] v (λ y n. s y n)

    values_back : {p : Page} → Memᴰ p R.pages → (l : List Bytes) (v : List Held) → ((h : Held) → Memᴰ h v → Memᴰ h p.values) → values_in (encode R) (map (category_term R) l ++ map (value_term R) v) ≡ v
    unfolding values_in
    values_back {p} m (x ∷ l) v s = head_category x (values_in (encode R) (map (category_term R) l ++ map (value_term R) v)) (held_of (encode R) (category_term R x) ∷ values_in (encode R) (map (category_term R) l ++ map (value_term R) v)) ∙ values_back m l v s
    values_back m [] [] s = refl
    values_back m [] (h ∷ v) s = head_value h (values_in (encode R) (map (value_term R) v)) (held_of (encode R) (value_term R h) ∷ values_in (encode R) (map (value_term R) v)) ∙ ap₂ (λ (a : Held) (r : List Held). a ∷ r) (held_back m (s h (Memᴰ.head refl))) (values_back m [] v (λ y n. s y (Memᴰ.tail n)))

    pub terms_back : {p : Page} → Memᴰ p R.pages → map (term_in (encode R)) (encode_page R p).forms ≡ page_terms R p
    unfolding encode_page
    terms_back {p} m = map-map (term_in (encode R)) (λ t. rank order_of t (terms_of R)) (page_terms R p) ∙ map_itself (λ t. term_in (encode R) (rank order_of t (terms_of R))) (page_terms R p) (λ t n. term_there (page_term m n))

    page_back : {p : Page} → Memᴰ p R.pages → decode_page (encode R) (encode_page R p) ≡ p
    unfolding decode_page encode_page page_terms
    page_back {p} m =
        let text : text_in (encode R) (rank order_of (identifier_text p.identifier) (texts_of R)) ≡ identifier_text p.identifier = text_there (page_text m) in
        page_eq _ _ (ap space_of text ∙ space_back p.identifier.namespace p.identifier.article) (ap name_of text ∙ name_back p.identifier.namespace p.identifier.article) (ap (categories_in (encode R)) (terms_back m) ∙ categories_back m p.categories p.values (λ x n. n)) (ap (values_in (encode R)) (terms_back m) ∙ values_back m p.categories p.values (λ h n. n))

    -- What is encoded is decoded.
    pub decoded : decode (encode R) ≡ R
    unfolding decode encode
    decoded =
        let ps : map (decode_property (encode R)) (map (encode_property R) R.properties) ≡ R.properties = map-map (decode_property (encode R)) (encode_property R) R.properties ∙ map_itself (λ p. decode_property (encode R) (encode_property R p)) R.properties (λ p m. property_back m) in
        let gs : map (decode_page (encode R)) (map (encode_page R) R.pages) ≡ R.pages = map-map (decode_page (encode R)) (encode_page R) R.pages ∙ map_itself (λ p. decode_page (encode R) (encode_page R p)) R.pages (λ p m. page_back m) in
        λ i. record { properties = ps i; pages = gs i }
