-- What the writer makes of a draft is a canonical dictionary.
use Prim.Native.Nat.{ℕ, ◌<◌}
use mathlib.Core.Path.{◌≡◌, sym, ap, ◌∙◌}
use mathlib.Core.Bool.{true, false, not}
use mathlib.Core.List.Memᴰ
use mathlib.Core.List.{List, [], ◌++◌, map, flat_map, map-map, map-append, Memᴰ}
use lib.Dec.{ltb, eqb}
use lib.ListN.{length}
use borrow.Author.Tests.{ltb-true, lt-ltb, not-true}
use Rattle.text.specs.Bytes.{Bytes, order_of, same}
use Rattle.language.specs.Register.{distinct, same_property}
use Rattle.language.specs.Joining.{only_in}
use Rattle.language.proofs.Members.{both_true, all_at, all_of, all_map, map_same}
use Rattle.language.proofs.Unions.{only_member}
use Rattle.language.proofs.Sameness.{same_decides, same_likeness}
use Rattle.sorting.specs.Ascending.{ascends, rank}
use Rattle.register_form.specs.Dictionary.{PageRow, Dictionary, is_category, term_in, decode_property, decode}
use Rattle.register_form.specs.Form.{forms_of}
use Rattle.register_form.specs.Tests.{is_labelled, is_plain_number, is_term, in_order, is_page_row, term_texts, text_uses, term_uses}
use Rattle.register_form.specs.Draft.{once, Draft, filtered, sorted_texts, new_number, new_term, sorted_terms, new_form, categories_first, new_forms, new_property, new_page, assembled}
use Rattle.register_form.proofs.Lists.{mem_at, mem_place, mem_flat, of_flat, used_mem, mem_used, number_back, number_at, number_small, sorted_up, mem_sorted, of_sorted}
use Rattle.register_form.proofs.Canonical.{categories_before}
use Rattle.register_form.proofs.Described.{Canon, Shaped, Use, use_of}
use Rattle.register_form.proofs.Once.{eqb_decides, likeness, test_kept, once_append, of_once, mem_once, once_map}
use Rattle.register_form.proofs.Filtered.{of_filtered, of_split, mem_split}
use Rattle.register_form.proofs.Renumbered.{new_below, new_plain, new_property_lem, new_kind, new_fits, new_shaped, new_names}

module _ (d : Dictionary) where
  -- The new term of a form, and the forms that are categories and values.
  abbrev form_term : ℕ → Bytes
  form_term f = new_term d (term_in d f)

  abbrev category_forms : List ℕ → List ℕ
  category_forms l = filtered (λ f. is_category (term_in d f)) l

  abbrev value_forms : List ℕ → List ℕ
  value_forms l = filtered (λ f. not (is_category (term_in d f))) l

module _ (d : Dictionary) (k : Draft d) where
  -- Forms by their new numbers.
  term_sorted : (f : ℕ) → f < length d.terms → Memᴰ (new_term d (term_in d f)) (sorted_terms d)
  unfolding sorted_terms
  term_sorted f b = mem_sorted (map (new_term d) d.terms) (Memᴰ.map (new_term d) (mem_at d.terms f [] b))

  terms_up_lem : ascends order_of (sorted_terms d) ≡ true
  unfolding sorted_terms
  terms_up_lem = sorted_up (map (new_term d) d.terms)

  pub new_form_term : (f : ℕ) → f < length d.terms → term_in (assembled d) (new_form d f) ≡ new_term d (term_in d f)
  unfolding assembled new_form
  new_form_term f b = number_back (sorted_terms d) terms_up_lem (new_term d (term_in d f)) (term_sorted f b)

  pub new_form_below : (f : ℕ) → f < length d.terms → new_form d f < length (sorted_terms d)
  unfolding new_form
  new_form_below f b = number_small (sorted_terms d) terms_up_lem (new_term d (term_in d f)) (term_sorted f b)

  pub form_small : {r : PageRow} {f : ℕ} → Memᴰ r d.pages → Memᴰ f r.forms → f < length d.terms
  form_small {r} {f} m n = ltb-true f (length d.terms) (all_at (λ f. ltb f (length d.terms)) k.forms (mem_flat forms_of m n))

  pub form_term_lem : {r : PageRow} {f : ℕ} → Memᴰ r d.pages → Memᴰ f r.forms → Memᴰ (term_in d f) d.terms
  form_term_lem {r} {f} m n = mem_at d.terms f [] (form_small m n)

  pub identifier_small : {r : PageRow} → Memᴰ r d.pages → r.identifier < length d.texts
  identifier_small {r} m = ltb-true r.identifier (length d.texts) (all_at (λ r. ltb r.identifier (length d.texts)) k.identifiers m)

  pub of_first : (l : List ℕ) {f : ℕ} → Memᴰ f (categories_first d l) → Memᴰ f l
  of_first l m = of_split (λ f. is_category (term_in d f)) l m

  -- Where the new terms are from.
  of_terms : {t : Bytes} → Memᴰ t (assembled d).terms → (u : Bytes) × Memᴰ u d.terms × (new_term d u ≡ t)
  unfolding assembled sorted_terms
  of_terms m = Memᴰ.of_map (new_term d) d.terms (of_sorted (map (new_term d) d.terms) m)

  -- The new forms of a page.
  module _ {r : PageRow} (m : Memᴰ r d.pages) where
    pub of_forms : {i : ℕ} → Memᴰ i (new_forms d r.forms) → (f : ℕ) × Memᴰ f r.forms × (new_form d f ≡ i)
    unfolding new_forms
    of_forms n =
        let q = Memᴰ.of_map (new_form d) (categories_first d r.forms) (of_once (likeness eqb_decides) (map (new_form d) (categories_first d r.forms)) n) in
        (q.0, of_first r.forms q.1, q.2)

    -- Their terms are the page's new terms, each once.
    pub new_terms : map (term_in (assembled d)) (new_forms d r.forms) ≡ once same (map (new_term d) (map (term_in d) (categories_first d r.forms)))
    unfolding new_forms new_form
    new_terms =
        let l = categories_first d r.forms in
        sym (once_map (likeness eqb_decides) same_likeness (term_in (assembled d)) (map (new_form d) l) kept)
        ∙ ap (once same) (map-map (term_in (assembled d)) (new_form d) l ∙ map_same (λ f. term_in (assembled d) (new_form d f)) (form_term d) l (λ f n. new_form_term f (form_small m (of_first r.forms n))) ∙ sym (map-map (new_term d) (term_in d) l))
      where
        back : (i : ℕ) → Memᴰ i (map (new_form d) (categories_first d r.forms)) → rank order_of (term_in (assembled d) i) (sorted_terms d) ≡ i
        back i n =
            let q = Memᴰ.of_map (new_form d) (categories_first d r.forms) n in
            ap (λ j. rank order_of (term_in (assembled d) j) (sorted_terms d)) (sym q.2)
            ∙ ap (λ t. rank order_of t (sorted_terms d)) (new_form_term q.0 (form_small m (of_first r.forms q.1)))
            ∙ q.2

        kept : (i j : ℕ) → Memᴰ i (map (new_form d) (categories_first d r.forms)) → Memᴰ j (map (new_form d) (categories_first d r.forms)) → same (term_in (assembled d) i) (term_in (assembled d) j) ≡ eqb i j
        kept i j n o = test_kept eqb_decides same_decides (term_in (assembled d)) i j (λ e. sym (back i n) ∙ ap (λ t. rank order_of t (sorted_terms d)) e ∙ back j o)

    -- They are in order.
    new_ordered : in_order false (map (term_in (assembled d)) (new_forms d r.forms)) ≡ true
    new_ordered =
        let a = map (form_term d) (category_forms d r.forms) in
        let b = map (form_term d) (value_forms d r.forms) in
        rw (new_terms, map-map (new_term d) (term_in d) (categories_first d r.forms), map-append (form_term d) (category_forms d r.forms) (value_forms d r.forms), once_append same_likeness a b)
        (categories_before (once same a) (only_in same (once same a) (once same b)) (λ t n. first t (of_once same_likeness a n)) (λ t n. behind t (of_once same_likeness b (only_member same (once same a) (once same b) n).0)))
      where
        first : (t : Bytes) → Memᴰ t (map (form_term d) (category_forms d r.forms)) → is_category t ≡ true
        first t n =
            let q = Memᴰ.of_map (form_term d) (category_forms d r.forms) n in
            ap is_category (sym q.2) ∙ new_kind d k (term_in d q.0) ∙ (of_filtered (λ f. is_category (term_in d f)) r.forms q.1).1

        behind : (t : Bytes) → Memᴰ t (map (form_term d) (value_forms d r.forms)) → is_category t ≡ false
        behind t n =
            let q = Memᴰ.of_map (form_term d) (value_forms d r.forms) n in
            ap is_category (sym q.2) ∙ new_kind d k (term_in d q.0) ∙ not-true (is_category (term_in d q.0)) (of_filtered (λ f. not (is_category (term_in d f))) r.forms q.1).1

    new_row_fits : is_page_row (assembled d) (new_page d r) ≡ true
    unfolding is_page_row assembled
    new_row_fits =
        both_true
        (both_true (lt-ltb (new_number d r.identifier) (length (sorted_texts d)) (new_below d k r.identifier (identifier_small m))) (all_of (λ f. ltb f (length (sorted_terms d))) (new_forms d r.forms) below))
        new_ordered
      where
        below : (i : ℕ) → Memᴰ i (new_forms d r.forms) → ltb i (length (sorted_terms d)) ≡ true
        below i n =
            let q = of_forms n in
            rw (← q.2) (lt-ltb (new_form d q.0) (length (sorted_terms d)) (new_form_below q.0 (form_small m q.1)))

  -- Every new term is used, and every text by its new number.
  terms_used_lem : (i : ℕ) → i < length (sorted_terms d) → Memᴰ i (term_uses (assembled d))
  unfolding assembled new_forms new_form
  terms_used_lem i b =
      let q = of_terms (mem_at (sorted_terms d) i [] b) in
      let f = mem_place [] q.1 in
      let r = of_flat forms_of d.pages (used_mem (length d.terms) (term_uses d) k.terms_used f.0 f.1) in
      let number : new_form d f.0 ≡ i = ap (λ t. rank order_of t (sorted_terms d)) (ap (new_term d) f.2 ∙ q.2) ∙ number_at (sorted_terms d) terms_up_lem i b in
      Memᴰ.cast (sym number) (mem_flat forms_of (Memᴰ.map (new_page d) r.1) (mem_once eqb_decides (Memᴰ.map (new_form d) (mem_split (λ f. is_category (term_in d f)) r.0.forms r.2))))

  pub new_term_mem : {t : Bytes} → Memᴰ t d.terms → Memᴰ (new_term d t) (assembled d).terms
  unfolding assembled sorted_terms
  new_term_mem m = mem_sorted (map (new_term d) d.terms) (Memᴰ.map (new_term d) m)

  new_use : {x : ℕ} → Use d x → Memᴰ (new_number d x) (text_uses (assembled d))
  unfolding text_uses assembled
  new_use (Use.property m e) =
      Memᴰ.append_left (map (λ p. p.identifier) (map (new_page d) d.pages) ++ flat_map (term_texts (assembled d)) (sorted_terms d))
      (Memᴰ.cast (ap (new_number d) (sym e)) (Memᴰ.map (λ p. p.name) (Memᴰ.map (new_property d) m)))
  new_use (Use.page m e) =
      Memᴰ.append_right (map (λ p. p.name) (map (new_property d) d.properties))
      (Memᴰ.append_left (flat_map (term_texts (assembled d)) (sorted_terms d)) (Memᴰ.cast (ap (new_number d) (sym e)) (Memᴰ.map (λ p. p.identifier) (Memᴰ.map (new_page d) m))))
  new_use (Use.term m n) =
      Memᴰ.append_right (map (λ p. p.name) (map (new_property d) d.properties))
      (Memᴰ.append_right (map (λ p. p.identifier) (map (new_page d) d.pages)) (mem_flat (term_texts (assembled d)) (new_term_mem m) (new_names d k m n)))

  texts_used_lem : (i : ℕ) → i < length (sorted_texts d) → Memᴰ i (text_uses (assembled d))
  unfolding new_number
  texts_used_lem i b =
      let x = mem_place [] (of_sorted d.texts (mem_at (sorted_texts d) i [] b)) in
      let number : new_number d x.0 ≡ i = ap (λ t. rank order_of t (sorted_texts d)) x.2 ∙ number_at (sorted_texts d) (sorted_up d.texts) i b in
      Memᴰ.cast (sym number) (new_use (use_of d (used_mem (length d.texts) (text_uses d) k.texts_used x.0 x.1)))

  pub assembled_canon : Canon (assembled d)
  unfolding assembled
  assembled_canon =
      record {
        up = sorted_up d.texts;
        labels = all_of is_labelled (sorted_texts d) (λ t m. all_at is_labelled k.labels (of_sorted d.texts m));
        names = all_map (λ p. is_plain_number (assembled d) p.name) (new_property d) d.properties (λ p m. new_plain d k p.name (all_at (λ p. is_plain_number d p.name) k.names m));
        terms_up = terms_up_lem;
        terms = all_of (is_term (assembled d)) (sorted_terms d) (λ t m. let q = of_terms m in rw (← q.2) (new_fits d k q.1));
        pages = all_map (is_page_row (assembled d)) (new_page d) d.pages (λ r m. new_row_fits m);
        terms_used = mem_used (length (sorted_terms d)) (term_uses (assembled d)) terms_used_lem;
        texts_used = mem_used (length (sorted_texts d)) (text_uses (assembled d)) texts_used_lem;
      }

  pub assembled_shaped : Shaped (assembled d)
  assembled_shaped t m = let q = of_terms m in rw (← q.2) (new_shaped d k q.1)

  -- It describes the properties that the draft does.
  pub properties_kept : (decode (assembled d)).properties ≡ (decode d).properties
  unfolding decode assembled
  properties_kept =
      map-map (decode_property (assembled d)) (new_property d) d.properties
      ∙ map_same (λ p. decode_property (assembled d) (new_property d p)) (decode_property d) d.properties (λ p m. new_property_lem d k m)

  pub properties_once_lem : distinct same_property (decode (assembled d)).properties ≡ true
  properties_once_lem = rw properties_kept k.properties_once
