-- The dictionary of a register is canonical.
use Prim.Native.Nat.{ℕ, ◌<◌}
use mathlib.Core.Path.{◌≡◌, refl, sym, ap, ◌∙◌}
use mathlib.Core.Bool.{Bool, true, false}
use mathlib.Core.Logic.{◌⊎◌, inl, inr}
use mathlib.Core.List.Memᴰ
use mathlib.Core.List.{List, [], ◌∷◌, ◌++◌, map, flat_map, Memᴰ}
use lib.Dec.{ltb}
use lib.ListN.{length, get_or, length-map}
use borrow.Author.Tests.{lt-ltb, le-leb}
use Rattle.text.specs.Bytes.{Bytes, order_of, all}
use Rattle.values.specs.Values.{scalar, string, Value, plain, link, kind_of}
use Rattle.language.specs.Register.{Property, Held, Page, Register}
use Rattle.sorting.specs.Ascending.{rank}
use Rattle.language.proofs.Members.{both_true, all_of}
use Rattle.language.proofs.Rules.{Ruled}
use Rattle.register_form.specs.Dictionary.{PropertyRow, PageRow, group_of, is_category}
use Rattle.register_form.specs.Encoding.{plain_text, identifier_text, value_texts, page_texts, texts_in, texts_of, value_code, category_term, value_term, page_terms, terms_of, encode_property, encode_page, encode}
use Rattle.register_form.specs.Form.{forms_of}
use Rattle.register_form.specs.Tests.{is_labelled, is_plain_number, is_code, is_term, in_order, is_page_row, code_texts, term_texts, text_uses, term_uses, is_canonical}
use Rattle.register_form.proofs.Lists.{mem_at, mem_flat, of_flat, mem_used, number_at, number_small, of_sorted}
use Rattle.register_form.proofs.Codes.{plain_plain, labelled_is}
use Rattle.register_form.proofs.Rules.{Limits}
use Rattle.register_form.proofs.Decoded.{property_text, page_text, category_text, value_text, page_term, texts_up, terms_up_lem, text_there, category_group, value_group, category_code, value_code_lem, value_row_kind, value_group_most, terms_back}

-- Where a text of a register comes from, and a term of a page.
pub data TextFrom (R : Register) (t : Bytes) : Type 0 where
  property : {p : Property} → Memᴰ p R.properties → t ≡ plain_text p.name → TextFrom R t
  page : {p : Page} → Memᴰ p R.pages → t ≡ identifier_text p.identifier → TextFrom R t
  category : {p : Page} {x : Bytes} → Memᴰ p R.pages → Memᴰ x p.categories → t ≡ plain_text x → TextFrom R t
  value : {p : Page} {h : Held} → Memᴰ p R.pages → Memᴰ h p.values → Memᴰ t (value_texts h.value) → TextFrom R t

pub data TermFrom (R : Register) (p : Page) (t : Bytes) : Type 0 where
  category : {x : Bytes} → Memᴰ x p.categories → t ≡ category_term R x → TermFrom R p t
  value : {h : Held} → Memᴰ h p.values → t ≡ value_term R h → TermFrom R p t

-- Categories stand before values.
values_behind : (b : Bool) (l : List Bytes) → ((t : Bytes) → Memᴰ t l → is_category t ≡ false) → in_order b l ≡ true
unfolding in_order
values_behind b [] h = refl
values_behind true (t ∷ l) h = rw (h t (Memᴰ.head refl)) (values_behind true l (λ u m. h u (Memᴰ.tail m)))
values_behind false (t ∷ l) h = rw (h t (Memᴰ.head refl)) (values_behind true l (λ u m. h u (Memᴰ.tail m)))

pub categories_before : (l m : List Bytes) → ((t : Bytes) → Memᴰ t l → is_category t ≡ true) → ((t : Bytes) → Memᴰ t m → is_category t ≡ false) → in_order false (l ++ m) ≡ true
unfolding in_order
categories_before [] m g h = values_behind false m h
categories_before (t ∷ l) m g h = rw (g t (Memᴰ.head refl)) (categories_before l m (λ u i. g u (Memᴰ.tail i)) h)

module _ (R : Register) where
  pub term_from_lem : (p : Page) {t : Bytes} → Memᴰ t (page_terms R p) → TermFrom R p t
  unfolding page_terms
  term_from_lem p {t} m = go (Memᴰ.append_cases (map (category_term R) p.categories) m)
    where
      go : Memᴰ t (map (category_term R) p.categories) ⊎ Memᴰ t (map (value_term R) p.values) → TermFrom R p t
      go (inl n) = let r = Memᴰ.of_map (category_term R) p.categories n in TermFrom.category r.1 (sym r.2)
      go (inr n) = let r = Memᴰ.of_map (value_term R) p.values n in TermFrom.value r.1 (sym r.2)

  page_text_from : {p : Page} {t : Bytes} → Memᴰ p R.pages → Memᴰ t (page_texts p) → TextFrom R t
  unfolding page_texts
  page_text_from {p} {t} m n = go (Memᴰ.cases_cons n)
    where
      inner : Memᴰ t (map plain_text p.categories) ⊎ Memᴰ t (flat_map (λ h. value_texts h.value) p.values) → TextFrom R t
      inner (inl n) = let r = Memᴰ.of_map plain_text p.categories n in TextFrom.category m r.1 (sym r.2)
      inner (inr n) = let r = of_flat (λ h. value_texts h.value) p.values n in TextFrom.value m r.1 r.2

      go : (t ≡ identifier_text p.identifier) ⊎ Memᴰ t (map plain_text p.categories ++ flat_map (λ h. value_texts h.value) p.values) → TextFrom R t
      go (inl e) = TextFrom.page m e
      go (inr n) = inner (Memᴰ.append_cases (map plain_text p.categories) n)

  pub text_from : {t : Bytes} → Memᴰ t (texts_in R) → TextFrom R t
  unfolding texts_in
  text_from {t} n = go (Memᴰ.append_cases (map (λ p. plain_text p.name) R.properties) n)
    where
      go : Memᴰ t (map (λ p. plain_text p.name) R.properties) ⊎ Memᴰ t (flat_map page_texts R.pages) → TextFrom R t
      go (inl n) = let r = Memᴰ.of_map (λ p. plain_text p.name) R.properties n in TextFrom.property r.1 (sym r.2)
      go (inr n) = let r = of_flat page_texts R.pages n in page_text_from r.1 r.2

  -- A text that some value has.
  value_labelled : (v : Value) {t : Bytes} → Memᴰ t (value_texts v) → is_labelled t ≡ true
  unfolding value_texts
  value_labelled (plain (scalar k c)) m = absurd (Memᴰ.not-nil m)
  value_labelled (plain (string s)) m = rw (Memᴰ.eq_of_singleton m) (labelled_is [] s)
  value_labelled (link i) m = rw (Memᴰ.eq_of_singleton m) (labelled_is i.namespace i.article)

  from_labelled : {t : Bytes} → TextFrom R t → is_labelled t ≡ true
  from_labelled (TextFrom.property {p = p} m e) = rw e (labelled_is [] p.name)
  from_labelled (TextFrom.page {p = p} m e) = rw e (labelled_is p.identifier.namespace p.identifier.article)
  from_labelled (TextFrom.category {x = x} m n e) = rw e (labelled_is [] x)
  from_labelled (TextFrom.value {h = h} m n k) = value_labelled h.value k

  plain_number : (x : Bytes) → Memᴰ (plain_text x) (texts_of R) → is_plain_number (encode R) (rank order_of (plain_text x) (texts_of R)) ≡ true
  unfolding is_plain_number encode
  plain_number x m =
      both_true (lt-ltb (rank order_of (plain_text x) (texts_of R)) (length (texts_of R)) (number_small (texts_of R) (texts_up R) (plain_text x) m))
      (rw (text_there R m) (plain_plain x))

  -- The code of a value is one of its kind.
  code_fits : (v : Value) → ((t : Bytes) → Memᴰ t (value_texts v) → Memᴰ t (texts_of R)) → is_code (encode R) (kind_of v) (value_code (texts_of R) v) ≡ true
  unfolding is_code value_code value_texts encode
  code_fits (plain (scalar j c)) k = refl
  code_fits (plain (string s)) k = plain_number s (k (plain_text s) (Memᴰ.head refl))
  code_fits (link i) k = lt-ltb (rank order_of (identifier_text i) (texts_of R)) (length (texts_of R)) (number_small (texts_of R) (texts_up R) (identifier_text i) (k (identifier_text i) (Memᴰ.head refl)))

  -- A text of a value is the one that the value's code names.
  code_names : (v : Value) {t : Bytes} → Memᴰ t (value_texts v) → Memᴰ (rank order_of t (texts_of R)) (code_texts (encode R) (kind_of v) (value_code (texts_of R) v))
  unfolding code_texts value_code value_texts
  code_names (plain (scalar k c)) m = absurd (Memᴰ.not-nil m)
  code_names (plain (string s)) m = Memᴰ.head (ap (λ (t : Bytes). rank order_of t (texts_of R)) (Memᴰ.eq_of_singleton m))
  code_names (link i) m = Memᴰ.head (ap (λ (t : Bytes). rank order_of t (texts_of R)) (Memᴰ.eq_of_singleton m))

  pub page_ordered : (p : Page) → in_order false (page_terms R p) ≡ true
  unfolding page_terms
  page_ordered p =
      categories_before (map (category_term R) p.categories) (map (value_term R) p.values)
      (λ t m. let q = Memᴰ.of_map (category_term R) p.categories m in rw (← q.2) (category_group R q.0))
      (λ t m. let q = Memᴰ.of_map (value_term R) p.values m in rw (← q.2) (value_group R q.0))

  module _ (k : Ruled R) (w : Limits R) where
    term_fits : {p : Page} {t : Bytes} → Memᴰ p R.pages → TermFrom R p t → is_term (encode R) t ≡ true
    unfolding is_term encode
    term_fits m (TermFrom.category {x = x} n e) = rw (e, category_group R x, category_code R k w m n) (plain_number x (category_text R m n))
    term_fits {p} m (TermFrom.value {h = h} n e) =
        rw (e, value_group R h, value_row_kind R k w m n, value_code_lem R k w m n)
        (both_true (le-leb (group_of (value_term R h)) (length (map (encode_property R) R.properties)) (rw (length-map R.properties (encode_property R)) (value_group_most R k w m n))) (code_fits h.value (value_text R m n)))

    identifier_small : {p : Page} → Memᴰ p R.pages → ltb (encode_page R p).identifier (length (texts_of R)) ≡ true
    unfolding encode_page
    identifier_small {p} m = lt-ltb (rank order_of (identifier_text p.identifier) (texts_of R)) (length (texts_of R)) (number_small (texts_of R) (texts_up R) (identifier_text p.identifier) (page_text R m))

    forms_small : {p : Page} → Memᴰ p R.pages → all (λ f. ltb f (length (terms_of R))) (encode_page R p).forms ≡ true
    unfolding encode_page
    forms_small {p} m = all_of (λ f. ltb f (length (terms_of R))) (map (λ t. rank order_of t (terms_of R)) (page_terms R p)) below
      where
        below : (f : ℕ) → Memᴰ f (map (λ t. rank order_of t (terms_of R)) (page_terms R p)) → ltb f (length (terms_of R)) ≡ true
        below f n =
            let r = Memᴰ.of_map (λ t. rank order_of t (terms_of R)) (page_terms R p) n in
            rw (← r.2) (lt-ltb (rank order_of r.0 (terms_of R)) (length (terms_of R)) (number_small (terms_of R) (terms_up_lem R) r.0 (page_term R m r.1)))

    page_row_fits : {p : Page} → Memᴰ p R.pages → is_page_row (encode R) (encode_page R p) ≡ true
    unfolding is_page_row encode
    page_row_fits {p} m = both_true (both_true (identifier_small m) (forms_small m)) (ap (in_order false) (terms_back R k w m) ∙ page_ordered p)

    -- Every term is one of a page's, and every text is used.
    terms_used_lem : (i : ℕ) → i < length (terms_of R) → Memᴰ i (term_uses (encode R))
    unfolding encode encode_page terms_of
    terms_used_lem i b =
        let t = get_or (terms_of R) i [] in
        let r = of_flat (page_terms R) R.pages (of_sorted (flat_map (page_terms R) R.pages) (mem_at (terms_of R) i [] b)) in
        Memᴰ.cast (sym (number_at (terms_of R) (terms_up_lem R) i b))
        (mem_flat forms_of (Memᴰ.map (encode_page R) r.1) (Memᴰ.map (λ t. rank order_of t (terms_of R)) r.2))

    by_property : {i : ℕ} → Memᴰ i (map (λ p. p.name) (encode R).properties) → Memᴰ i (text_uses (encode R))
    unfolding text_uses
    by_property m = Memᴰ.append_left (map (λ p. p.identifier) (encode R).pages ++ flat_map (term_texts (encode R)) (encode R).terms) m

    by_page : {i : ℕ} → Memᴰ i (map (λ p. p.identifier) (encode R).pages) → Memᴰ i (text_uses (encode R))
    unfolding text_uses
    by_page m = Memᴰ.append_right (map (λ p. p.name) (encode R).properties) (Memᴰ.append_left (flat_map (term_texts (encode R)) (encode R).terms) m)

    by_term : {i : ℕ} {t : Bytes} → Memᴰ t (encode R).terms → Memᴰ i (term_texts (encode R) t) → Memᴰ i (text_uses (encode R))
    unfolding text_uses
    by_term m n = Memᴰ.append_right (map (λ p. p.name) (encode R).properties) (Memᴰ.append_right (map (λ p. p.identifier) (encode R).pages) (mem_flat (term_texts (encode R)) m n))

    category_names : {p : Page} {x : Bytes} → Memᴰ p R.pages → Memᴰ x p.categories → Memᴰ (rank order_of (plain_text x) (texts_of R)) (term_texts (encode R) (category_term R x))
    unfolding term_texts
    category_names {p} {x} m n = rw (category_group R x) (Memᴰ.head (sym (category_code R k w m n)))

    value_names : {p : Page} {h : Held} {t : Bytes} → Memᴰ p R.pages → Memᴰ h p.values → Memᴰ t (value_texts h.value) → Memᴰ (rank order_of t (texts_of R)) (term_texts (encode R) (value_term R h))
    unfolding term_texts
    value_names {p} {h} m n l = rw (value_group R h, value_row_kind R k w m n, value_code_lem R k w m n) (code_names h.value l)

    number_used : {t : Bytes} → TextFrom R t → Memᴰ (rank order_of t (texts_of R)) (text_uses (encode R))
    unfolding encode encode_property encode_page page_terms
    number_used (TextFrom.property {p = p} m e) = rw e (by_property (Memᴰ.map (λ p. p.name) (Memᴰ.map (encode_property R) m)))
    number_used (TextFrom.page {p = p} m e) = rw e (by_page (Memᴰ.map (λ p. p.identifier) (Memᴰ.map (encode_page R) m)))
    number_used (TextFrom.category {p = p} m n e) = rw e (by_term (page_term R m (Memᴰ.append_left (map (value_term R) p.values) (Memᴰ.map (category_term R) n))) (category_names m n))
    number_used (TextFrom.value {p = p} m n l) = by_term (page_term R m (Memᴰ.append_right (map (category_term R) p.categories) (Memᴰ.map (value_term R) n))) (value_names m n l)

    texts_used_lem : (i : ℕ) → i < length (texts_of R) → Memᴰ i (text_uses (encode R))
    unfolding texts_of
    texts_used_lem i b = Memᴰ.cast (sym (number_at (texts_of R) (texts_up R) i b)) (number_used (text_from (of_sorted (texts_in R) (mem_at (texts_of R) i [] b))))

    property_rows : (r : PropertyRow) → Memᴰ r (map (encode_property R) R.properties) → is_plain_number (encode R) r.name ≡ true
    unfolding encode_property
    property_rows r m = let q = Memᴰ.of_map (encode_property R) R.properties m in rw (← q.2) (plain_number q.0.name (property_text R q.1))

    page_rows : (r : PageRow) → Memᴰ r (map (encode_page R) R.pages) → is_page_row (encode R) r ≡ true
    page_rows r m = let q = Memᴰ.of_map (encode_page R) R.pages m in rw (← q.2) (page_row_fits q.1)

    term_rows : (t : Bytes) → Memᴰ t (terms_of R) → is_term (encode R) t ≡ true
    unfolding terms_of
    term_rows t m =
        let r = of_flat (page_terms R) R.pages (of_sorted (flat_map (page_terms R) R.pages) m) in
        term_fits r.1 (term_from_lem r.0 r.2)

    text_rows : (t : Bytes) → Memᴰ t (texts_of R) → is_labelled t ≡ true
    unfolding texts_of
    text_rows t m = from_labelled (text_from (of_sorted (texts_in R) m))

    pub canonical : is_canonical (encode R) ≡ true
    unfolding is_canonical encode
    canonical =
        both_true
        (both_true
        (both_true
        (both_true
        (both_true
        (both_true
        (both_true (texts_up R) (all_of is_labelled (texts_of R) text_rows))
        (all_of (λ p. is_plain_number (encode R) p.name) (map (encode_property R) R.properties) property_rows))
        (terms_up_lem R))
        (all_of (is_term (encode R)) (terms_of R) term_rows))
        (all_of (is_page_row (encode R)) (map (encode_page R) R.pages) page_rows))
        (mem_used (length (terms_of R)) (term_uses (encode R)) terms_used_lem))
        (mem_used (length (texts_of R)) (text_uses (encode R)) texts_used_lem)
