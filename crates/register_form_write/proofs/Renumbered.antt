-- The numbers of a draft's texts and terms, by the tables that numbering made.
use Prim.Native.Nat.{ℕ, ◌-◌, ◌<◌, ◌^◌}
use mathlib.Core.Path.{◌≡◌, refl, sym, ap, ap₂, ◌∙◌}
use mathlib.Core.Bool.{Bool, true, false, cond, ◌&&◌}
use mathlib.Core.List.{List, [], map}
use native.Mathlib.Omega.{arith}
use lib.Dec.{ltb, leb, eqb}
use lib.ListN.{length, get_or}
use borrow.Author.Tests.{ltb-true, leb-true, eqb-false}
use Rattle.text.specs.Bytes.{Bytes, order_of}
use Rattle.text.specs.Table.{tabulate}
use Rattle.text.proofs.Tables.{length_tabulate, get_d_tabulate, tabulate_ext}
use Rattle.values.specs.Values.{kind_from}
use Rattle.values.specs.declared.Kind.{Kind}
use Rattle.language.proofs.Members.{and_true, all_at}
use Rattle.sorting.specs.Ascending.{sorted, rank}
use Rattle.sorting.specs.Listing.{listed, Numbered}
use Rattle.dictionary.specs.Items.{text_at}
use Rattle.register_form.specs.Dictionary.{PropertyRow, term_of, group_of, term_code, text_in, term_in, property_in, no_property}
use Rattle.register_form.specs.Tests.{is_plain, is_plain_number, is_code, is_term}
use Rattle.register_form.specs.Draft.{Draft, sorted_texts, new_number, new_code, new_term, sorted_terms, new_form}
use Rattle.register_form.proofs.Lists.{mem_at}
use Rattle.register_form.proofs.Numbers.{code_back}
use Rattle.buffer.proofs.Parts.{map_tabulate}
use Rattle.register_form_bytes.specs.Writing.{row_of}
use Rattle.register_form.specs.Tables.{Tables, draft_in}
use Rattle.register_form_assembly.specs.Terms.{code_for, code_by, term_by}

-- The parts of a draft in tables.
module _ (t : Tables) where
  pub draft_texts : (draft_in t).texts ≡ tabulate t.m (text_at t.s t.starts t.lens)
  unfolding draft_in
  draft_texts = refl

  pub text_count_lem : length (draft_in t).texts ≡ t.m
  unfolding draft_in
  text_count_lem = length_tabulate t.m (text_at t.s t.starts t.lens)

  pub term_count_lem : length (draft_in t).terms ≡ t.nt
  unfolding draft_in
  term_count_lem = length_tabulate t.nt (λ f. term_of (get_or t.groups f 0) (get_or t.codes f 0))

  pub property_count_lem : length (draft_in t).properties ≡ t.np
  unfolding draft_in
  property_count_lem = length_tabulate t.np (λ p. row_of (get_or t.kinds p 0) (get_or t.names p 0))

  pub page_count_lem : length (draft_in t).pages ≡ t.ng
  unfolding draft_in
  page_count_lem = length_tabulate t.ng _

  pub text_in_lem : (x : ℕ) → x < t.m → text_in (draft_in t) x ≡ text_at t.s t.starts t.lens x
  unfolding draft_in
  text_in_lem x b = get_d_tabulate t.m (text_at t.s t.starts t.lens) [] x b

  pub term_in_lem : (f : ℕ) → f < t.nt → term_in (draft_in t) f ≡ term_of (get_or t.groups f 0) (get_or t.codes f 0)
  unfolding draft_in
  term_in_lem f b = get_d_tabulate t.nt (λ f. term_of (get_or t.groups f 0) (get_or t.codes f 0)) [] f b

  pub property_in_lem : (p : ℕ) → p < t.np → property_in (draft_in t) p ≡ row_of (get_or t.kinds p 0) (get_or t.names p 0)
  unfolding draft_in
  property_in_lem p b = get_d_tabulate t.np (λ p. row_of (get_or t.kinds p 0) (get_or t.names p 0)) (no_property (draft_in t)) p b

  pub plain_below : (x : ℕ) → is_plain_number (draft_in t) x ≡ true → (x < t.m) × (is_plain (text_at t.s t.starts t.lens x) ≡ true)
  unfolding is_plain_number
  plain_below x h =
      let a = and_true (ltb x (length (draft_in t).texts)) (is_plain (text_in (draft_in t) x)) h in
      let b : x < t.m = omega (arith, ltb-true x (length (draft_in t).texts) a.0, text_count_lem) in
      (b, rw (text_in_lem x b) at a.1)

  -- What a code that some value of the kind has tells, where it names a text.
  pub page_below : (x : ℕ) → is_code (draft_in t) Kind.Page x ≡ true → x < t.m
  unfolding is_code
  page_below x h = omega (arith, ltb-true x (length (draft_in t).texts) h, text_count_lem)

  pub string_below : (x : ℕ) → is_code (draft_in t) Kind.String x ≡ true → (x < t.m) × (is_plain (text_at t.s t.starts t.lens x) ≡ true)
  unfolding is_code
  string_below x h = plain_below x h

  -- What is known of form f: a category's text, or a value's property and code.
  module _ (dr : Draft (draft_in t)) (small : (i : ℕ) → get_or t.codes i 0 < 2 ^ 64) (f : ℕ) (b : f < t.nt) where
    abbrev kind_at : Kind
    kind_at = kind_from (get_or t.kinds (get_or t.groups f 0 - 1) 0)

    pub code_in : term_code (term_in (draft_in t) f) ≡ get_or t.codes f 0
    code_in = ap term_code (term_in_lem f b) ∙ code_back (get_or t.groups f 0) (get_or t.codes f 0) (small f)

    pub group_in : group_of (term_in (draft_in t) f) ≡ get_or t.groups f 0
    group_in = ap group_of (term_in_lem f b)

    is_term_lem : is_term (draft_in t) (term_in (draft_in t) f) ≡ true
    is_term_lem = all_at (is_term (draft_in t)) dr.terms (mem_at (draft_in t).terms f [] (omega (arith, term_count_lem)))

    pub category_text : eqb (get_or t.groups f 0) 0 ≡ true → (get_or t.codes f 0 < t.m) × (is_plain (text_at t.s t.starts t.lens (get_or t.codes f 0)) ≡ true)
    unfolding is_term
    category_text e = plain_below (get_or t.codes f 0) (rw (code_in, group_in, e) at is_term_lem)

    value_fits : eqb (get_or t.groups f 0) 0 ≡ false → (leb (get_or t.groups f 0) (length (draft_in t).properties) && is_code (draft_in t) (property_in (draft_in t) (get_or t.groups f 0 - 1)).kind (get_or t.codes f 0)) ≡ true
    unfolding is_term
    value_fits e = rw (code_in, group_in, e) at is_term_lem

    value_parts : eqb (get_or t.groups f 0) 0 ≡ false → (leb (get_or t.groups f 0) (length (draft_in t).properties) ≡ true) × (is_code (draft_in t) (property_in (draft_in t) (get_or t.groups f 0 - 1)).kind (get_or t.codes f 0) ≡ true)
    value_parts e = and_true (leb (get_or t.groups f 0) (length (draft_in t).properties)) (is_code (draft_in t) (property_in (draft_in t) (get_or t.groups f 0 - 1)).kind (get_or t.codes f 0)) (value_fits e)

    pub value_property : eqb (get_or t.groups f 0) 0 ≡ false → get_or t.groups f 0 - 1 < t.np
    value_property e = omega (arith, leb-true (get_or t.groups f 0) (length (draft_in t).properties) (value_parts e).0, property_count_lem, eqb-false (get_or t.groups f 0) 0 e)

    pub value_kind : eqb (get_or t.groups f 0) 0 ≡ false → (property_in (draft_in t) (get_or t.groups f 0 - 1)).kind ≡ kind_at
    value_kind e = ap (λ (r : PropertyRow). r.kind) (property_in_lem (get_or t.groups f 0 - 1) (value_property e))

    pub value_code_lem : eqb (get_or t.groups f 0) 0 ≡ false → is_code (draft_in t) kind_at (get_or t.codes f 0) ≡ true
    value_code_lem e = rw (value_kind e) at (value_parts e).1

-- The new numbers of texts.
module _ (t : Tables) (refs : List ℕ) (nx : ℕ) (numbers : List ℕ) (q : Numbered order_of (text_at t.s t.starts t.lens) t.m refs nx numbers) where
  pub texts_are : listed (text_at t.s t.starts t.lens) refs nx ≡ sorted_texts (draft_in t)
  texts_are = q.is ∙ ap (sorted order_of) (sym (draft_texts t))

  pub number_is : (x : ℕ) → x < t.m → new_number (draft_in t) x ≡ get_or numbers x 0
  unfolding new_number
  number_is x b = ap₂ (λ (y : Bytes) (l : List Bytes). rank order_of y (sorted order_of l)) (text_in_lem t x b) (draft_texts t) ∙ sym (q.at x b)

  -- The new terms.
  module _ (dr : Draft (draft_in t)) (small : (i : ℕ) → get_or t.codes i 0 < 2 ^ 64) where
    code_is : (k : Kind) (c : ℕ) → is_code (draft_in t) k c ≡ true → new_code (draft_in t) k c ≡ code_for k numbers c
    unfolding new_code
    code_is Kind.Page c h = number_is c (page_below t c h)
    code_is (Kind.Scalar k) c h = refl
    code_is Kind.String c h = number_is c (string_below t c h).0

    pub term_is : (f : ℕ) → f < t.nt → term_by t.kinds numbers t.groups t.codes f ≡ new_term (draft_in t) (term_in (draft_in t) f)
    unfolding new_term term_by code_by
    term_is f b = sym (rw (code_in t dr small f b, group_in t dr small f b) (ap (term_of (get_or t.groups f 0)) (go (eqb (get_or t.groups f 0) 0) refl)))
      where
        go : (y : Bool) → eqb (get_or t.groups f 0) 0 ≡ y → cond y (new_number (draft_in t) (get_or t.codes f 0)) (new_code (draft_in t) (property_in (draft_in t) (get_or t.groups f 0 - 1)).kind (get_or t.codes f 0)) ≡ cond y (get_or numbers (get_or t.codes f 0) 0) (code_for (kind_from (get_or t.kinds (get_or t.groups f 0 - 1) 0)) numbers (get_or t.codes f 0))
        go true e = number_is (get_or t.codes f 0) (category_text t dr small f b e).0
        go false e = rw (value_kind t dr small f b e) (code_is (kind_from (get_or t.kinds (get_or t.groups f 0 - 1) 0)) (get_or t.codes f 0) (value_code_lem t dr small f b e))

    -- The numbers of terms, by a table whose texts are they.
    module _ (g : ℕ → Bytes) (same : (f : ℕ) → f < t.nt → g f ≡ term_by t.kinds numbers t.groups t.codes f) (term_refs : List ℕ) (nt : ℕ) (term_numbers : List ℕ) (w : Numbered order_of g t.nt term_refs nt term_numbers) where
      pub term_there : (f : ℕ) → f < t.nt → g f ≡ new_term (draft_in t) (term_in (draft_in t) f)
      term_there f b = same f b ∙ term_is f b

      new_terms : tabulate t.nt g ≡ map (new_term (draft_in t)) (draft_in t).terms
      unfolding draft_in
      new_terms =
          tabulate_ext t.nt g (λ f. new_term (draft_in t) (term_of (get_or t.groups f 0) (get_or t.codes f 0))) (λ f b. term_there f b ∙ ap (new_term (draft_in t)) (term_in_lem t f b))
          ∙ sym (map_tabulate (new_term (draft_in t)) t.nt (λ f. term_of (get_or t.groups f 0) (get_or t.codes f 0)))

      pub terms_are : listed g term_refs nt ≡ sorted_terms (draft_in t)
      unfolding sorted_terms
      terms_are = w.is ∙ ap (sorted order_of) new_terms

      pub form_is : (f : ℕ) → f < t.nt → new_form (draft_in t) f ≡ get_or term_numbers f 0
      unfolding new_form sorted_terms
      form_is f b = ap₂ (λ (y : Bytes) (l : List Bytes). rank order_of y (sorted order_of l)) (sym (term_there f b)) (sym new_terms) ∙ sym (w.at f b)
