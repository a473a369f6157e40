-- A canonical dictionary is the one that encoding what it describes gives, where no property is there twice.
use Prim.Native.Nat.{ℕ, suc, ◌-◌, ◌<◌}
use mathlib.Core.Path.{◌≡◌, refl, sym, ap, ap₂, ◌∙◌, subst}
use mathlib.Core.Bool.{Bool, true, false, cond, not, ◌&&◌, false≢true}
use mathlib.Core.List.Memᴰ
use mathlib.Core.List.{List, [], ◌∷◌, ◌++◌, map, flat_map, map-map, Memᴰ}
use lib.ListN.{length, get_or}
use borrow.Author.Tests.{ltb-true, eqb-true}
use Rattle.text.specs.Bytes.{Bytes, order_of}
use Rattle.values.specs.declared.Kind.{Kind}
use Rattle.values.specs.Values.{Value}
use Rattle.language.specs.Register.{Property, distinct, same_property}
use Rattle.sorting.specs.Ascending.{rank}
use Rattle.language.proofs.Members.{all_at, map_itself}
use Rattle.register_form.specs.Dictionary.{PropertyRow, PageRow, Dictionary, name_of, identifier_of, term_of, group_of, term_code, is_category, value_from, text_in, term_in, property_in, category_of, held_of, categories_in, values_in, decode_property, decode_page, decode}
use Rattle.register_form.specs.Encoding.{plain_text, identifier_text, value_texts, page_texts, texts_in, texts_of, place_among, value_code, category_term, value_term, page_terms, terms_of, encode_property, encode_page, encode}
use Rattle.register_form.specs.Tests.{is_plain_number, is_code, in_order, code_texts, term_texts, text_uses}
use Rattle.register_form.proofs.Lists.{mem_place, mem_flat, of_flat, used_mem, number_at, sorted_is}
use Rattle.register_form.proofs.Rules.{undeclared}
use Rattle.register_form.proofs.Canonical.{text_from}
use Rattle.register_form.proofs.Described.{Canon, Shaped, place_once, category_mem, value_mem, category_name, held_value, ident_text, plain_below, plain_text_lem, category_fits, value_code_fits, page_below, form_below, forms_ordered, page_term_mem, term_on, value_text_out, from_in, Use, use_of, decoded_name, declared}

module _ (d : Dictionary) (c : Canon d) where
  property_mem : {r : PropertyRow} → Memᴰ r d.properties → Memᴰ (text_in d r.name) (texts_in (decode d))
  unfolding texts_in decode decode_property
  property_mem {r} m =
      Memᴰ.append_left (flat_map page_texts (map (decode_page d) d.pages))
      (Memᴰ.cast (sym (plain_text_lem d c r.name (all_at (λ p. is_plain_number d p.name) c.names m))) (Memᴰ.map (λ p. plain_text p.name) (Memᴰ.map (decode_property d) m)))

  on_page_lem : {r : PageRow} {t : Bytes} → Memᴰ r d.pages → Memᴰ t (page_texts (decode_page d r)) → Memᴰ t (texts_in (decode d))
  unfolding texts_in decode
  on_page_lem m n = Memᴰ.append_right (map (λ p. plain_text p.name) (map (decode_property d) d.properties)) (mem_flat page_texts (Memᴰ.map (decode_page d) m) n)

  page_mem : {r : PageRow} → Memᴰ r d.pages → Memᴰ (text_in d r.identifier) (texts_in (decode d))
  unfolding page_texts decode_page
  page_mem {r} m = on_page_lem m (Memᴰ.head (sym (ident_text d c r.identifier (page_below d c m))))

  term_mem : {t : Bytes} {i : ℕ} → Memᴰ t d.terms → Memᴰ i (term_texts d t) → Memᴰ (text_in d i) (texts_in (decode d))
  unfolding page_texts decode_page term_texts
  term_mem {t} {i} m n = go (is_category t) refl n (term_on d c m)
    where
      go : (b : Bool) → is_category t ≡ b → Memᴰ i (cond b (term_code t ∷ []) (code_texts d (property_in d (group_of t - 1)).kind (term_code t))) → (r : PageRow) × Memᴰ r d.pages × Memᴰ t (map (term_in d) r.forms) → Memᴰ (text_in d i) (texts_in (decode d))
      go true e n r =
          let h = category_fits d c.terms m e in
          let name : text_in d i ≡ plain_text (category_of d t) = ap (text_in d) (Memᴰ.eq_of_singleton n) ∙ sym (ap plain_text (category_name d t) ∙ plain_text_lem d c (term_code t) h) in
          on_page_lem r.1 (Memᴰ.tail (Memᴰ.append_left (flat_map (λ h. value_texts h.value) (values_in d (map (term_in d) r.0.forms))) (Memᴰ.cast name (Memᴰ.map plain_text (category_mem d r.2 e)))))
      go false e n r =
          let h = value_code_fits d c.terms m e in
          let text = value_text_out d c (property_in d (group_of t - 1)).kind (term_code t) h n in
          on_page_lem r.1 (Memᴰ.tail (Memᴰ.append_right (map plain_text (categories_in d (map (term_in d) r.0.forms))) (mem_flat (λ h. value_texts h.value) (value_mem d r.2 e) (subst (λ (v : Value). Memᴰ (text_in d i) (value_texts v)) (sym (held_value d t)) text))))

  used : {i : ℕ} → Use d i → Memᴰ (text_in d i) (texts_in (decode d))
  used (Use.property m e) = Memᴰ.cast (ap (text_in d) (sym e)) (property_mem m)
  used (Use.page m e) = Memᴰ.cast (ap (text_in d) (sym e)) (page_mem m)
  used (Use.term m n) = term_mem m n

  pub texts_same : texts_of (decode d) ≡ d.texts
  unfolding texts_of
  texts_same =
      sym (sorted_is d.texts (texts_in (decode d)) c.up
      (λ z m. let q = mem_place [] m in Memᴰ.cast (sym q.2) (used (use_of d (used_mem (length d.texts) (text_uses d) c.texts_used q.0 q.1))))
      (λ z m. from_in d c (text_from (decode d) m)))

  -- Numbers of texts come back.
  plain_number_back : (x : ℕ) → is_plain_number d x ≡ true → rank order_of (plain_text (name_of (text_in d x))) (texts_of (decode d)) ≡ x
  plain_number_back x h = rw (texts_same, plain_text_lem d c x h) (number_at d.texts c.up x (plain_below d x h))

  ident_number_back : (x : ℕ) → x < length d.texts → rank order_of (identifier_text (identifier_of (text_in d x))) (texts_of (decode d)) ≡ x
  ident_number_back x b = rw (texts_same, ident_text d c x b) (number_at d.texts c.up x b)

  page_number : {r : PageRow} → Memᴰ r d.pages → rank order_of (identifier_text (decode_page d r).identifier) (texts_of (decode d)) ≡ r.identifier
  unfolding decode_page
  page_number {r} m = ident_number_back r.identifier (page_below d c m)

  code_back : (k : Kind) (n : ℕ) → is_code d k n ≡ true → value_code (texts_of (decode d)) (value_from d.texts k n) ≡ n
  unfolding value_code is_code
  code_back Kind.Page n h = ident_number_back n (ltb-true n (length d.texts) h)
  code_back (Kind.Scalar j) n h = refl
  code_back Kind.String n h = plain_number_back n h

  module _ (once : distinct same_property (decode d).properties ≡ true) (shaped : Shaped d) where
    pub category_back : {t : Bytes} → Memᴰ t d.terms → is_category t ≡ true → category_term (decode d) (category_of d t) ≡ t
    unfolding category_term category_of
    category_back {t} m e =
        ap₂ term_of (sym (eqb-true (group_of t) 0 e)) (plain_number_back (term_code t) (category_fits d c.terms m e)) ∙ shaped t m

    place_back : {t : Bytes} → Memᴰ t d.terms → is_category t ≡ false → suc (place_among (decode d).properties (held_of d t).property) ≡ group_of t
    unfolding held_of
    place_back {t} m e =
        let r = declared d c.terms m e in
        let name : (get_or (decode d).properties (group_of t - 1) undeclared).name ≡ name_of (text_in d (property_in d (group_of t - 1)).name) = ap (λ (p : Property). p.name) r.2 ∙ decoded_name d (property_in d (group_of t - 1)) in
        ap suc (ap (place_among (decode d).properties) (sym name) ∙ place_once (decode d).properties (group_of t - 1) undeclared once r.1) ∙ r.0

    pub value_back : {t : Bytes} → Memᴰ t d.terms → is_category t ≡ false → value_term (decode d) (held_of d t) ≡ t
    unfolding value_term
    value_back {t} m e =
        ap₂ term_of (place_back m e) (ap (value_code (texts_of (decode d))) (held_value d t) ∙ code_back (property_in d (group_of t - 1)).kind (term_code t) (value_code_fits d c.terms m e)) ∙ shaped t m

    -- A page's terms come back.
    values_only : (l : List Bytes) → ((t : Bytes) → Memᴰ t l → Memᴰ t d.terms) → in_order true l ≡ true → (categories_in d l ≡ []) × (map (value_term (decode d)) (values_in d l) ≡ l)
    unfolding in_order categories_in values_in
    values_only [] s o = (refl, refl)
    values_only (t ∷ l) s o = go (is_category t) refl o (values_only l (λ u n. s u (Memᴰ.tail n)))
      where
        go : (b : Bool) → is_category t ≡ b → (not (true && b) && in_order (not b) l) ≡ true → (in_order true l ≡ true → (categories_in d l ≡ []) × (map (value_term (decode d)) (values_in d l) ≡ l)) → (cond b (category_of d t ∷ categories_in d l) (categories_in d l) ≡ []) × (map (value_term (decode d)) (cond b (values_in d l) (held_of d t ∷ values_in d l)) ≡ t ∷ l)
        go true e o ih = absurd (false≢true o)
        go false e o ih = let r = ih o in (r.0, ap₂ (λ (a : Bytes) (m : List Bytes). a ∷ m) (value_back (s t (Memᴰ.head refl)) e) r.1)

    terms_back : (l : List Bytes) → ((t : Bytes) → Memᴰ t l → Memᴰ t d.terms) → in_order false l ≡ true → map (category_term (decode d)) (categories_in d l) ++ map (value_term (decode d)) (values_in d l) ≡ l
    unfolding in_order categories_in values_in
    terms_back [] s o = refl
    terms_back (t ∷ l) s o = go (is_category t) refl o (terms_back l (λ u n. s u (Memᴰ.tail n))) (values_only l (λ u n. s u (Memᴰ.tail n)))
      where
        go : (b : Bool) → is_category t ≡ b → (not (false && b) && in_order (not b) l) ≡ true → (in_order false l ≡ true → map (category_term (decode d)) (categories_in d l) ++ map (value_term (decode d)) (values_in d l) ≡ l) → (in_order true l ≡ true → (categories_in d l ≡ []) × (map (value_term (decode d)) (values_in d l) ≡ l)) → map (category_term (decode d)) (cond b (category_of d t ∷ categories_in d l) (categories_in d l)) ++ map (value_term (decode d)) (cond b (values_in d l) (held_of d t ∷ values_in d l)) ≡ t ∷ l
        go true e o ih v = ap₂ (λ (a : Bytes) (m : List Bytes). a ∷ m) (category_back (s t (Memᴰ.head refl)) e) (ih o)
        go false e o ih v = let r = v o in rw r.0 (ap₂ (λ (a : Bytes) (m : List Bytes). a ∷ m) (value_back (s t (Memᴰ.head refl)) e) r.1)

    pub page_terms_back : {r : PageRow} → Memᴰ r d.pages → page_terms (decode d) (decode_page d r) ≡ map (term_in d) r.forms
    unfolding page_terms decode_page
    page_terms_back {r} m = terms_back (map (term_in d) r.forms) (λ t n. page_term_mem d c m n) (forms_ordered d c m)

    pub terms_same : terms_of (decode d) ≡ d.terms
    unfolding terms_of decode
    terms_same =
        sym (sorted_is d.terms (flat_map (page_terms (decode d)) (map (decode_page d) d.pages)) c.terms_up
        (λ z m. let r = term_on d c m in mem_flat (page_terms (decode d)) (Memᴰ.map (decode_page d) r.1) (subst (λ (l : List Bytes). Memᴰ z l) (sym (page_terms_back r.1)) r.2))
        (λ z m. let r = of_flat (page_terms (decode d)) (map (decode_page d) d.pages) m in let q = Memᴰ.of_map (decode_page d) d.pages r.1 in page_term_mem d c q.1 (subst (λ (l : List Bytes). Memᴰ z l) (ap (page_terms (decode d)) (sym q.2) ∙ page_terms_back q.1) r.2)))

    property_row_back : {r : PropertyRow} → Memᴰ r d.properties → encode_property (decode d) (decode_property d r) ≡ r
    unfolding encode_property decode_property
    property_row_back {r} m = λ i. record { kind = r.kind; name = plain_number_back r.name (all_at (λ p. is_plain_number d p.name) c.names m) i }

    page_row_back : {r : PageRow} → Memᴰ r d.pages → encode_page (decode d) (decode_page d r) ≡ r
    unfolding encode_page
    page_row_back {r} m =
        let forms : map (λ t. rank order_of t (terms_of (decode d))) (page_terms (decode d) (decode_page d r)) ≡ r.forms =
        ap (map (λ t. rank order_of t (terms_of (decode d)))) (page_terms_back m)
        ∙ map-map (λ t. rank order_of t (terms_of (decode d))) (term_in d) r.forms
        ∙ map_itself (λ f. rank order_of (term_in d f) (terms_of (decode d))) r.forms (λ f n. rw terms_same (number_at d.terms c.terms_up f (form_below d c m n))) in
        λ i. record { identifier = (page_number m) i; forms = forms i }

    -- What a canonical dictionary describes is encoded as that dictionary.
    pub encoded : encode (decode d) ≡ d
    unfolding encode decode
    encoded =
        let ps : map (encode_property (decode d)) (map (decode_property d) d.properties) ≡ d.properties = map-map (encode_property (decode d)) (decode_property d) d.properties ∙ map_itself (λ r. encode_property (decode d) (decode_property d r)) d.properties (λ r m. property_row_back m) in
        let gs : map (encode_page (decode d)) (map (decode_page d) d.pages) ≡ d.pages = map-map (encode_page (decode d)) (decode_page d) d.pages ∙ map_itself (λ r. encode_page (decode d) (decode_page d r)) d.pages (λ r m. page_row_back m) in
        λ i. record { properties = ps i; pages = gs i; terms = terms_same i; texts = texts_same i }
