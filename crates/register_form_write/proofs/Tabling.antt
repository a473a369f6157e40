-- The dictionary that the writer's tables tell is the one that is assembled of the draft.
use Prim.Native.Nat.{ℕ, suc, ◌+◌, ◌-◌, ◌≤◌, ◌<◌, ◌^◌}
use mathlib.Core.Path.{◌≡◌, refl, sym, ap, ap₂, ◌∙◌}
use mathlib.Core.Bool.{Bool, true, false, cond, not}
use mathlib.Core.List.Memᴰ
use mathlib.Core.List.{List, [], ◌∷◌, ◌++◌, map, map-append, Memᴰ}
use mathlib.Core.Logic.{◌⊎◌, inl, inr}
use native.Mathlib.Omega.{arith}
use lib.Dec.{ltb, eqb}
use lib.ListN.{length, get_or}
use borrow.Author.Tests.{ltb-true}
use Rattle.text.specs.Bytes.{order_of}
use Rattle.text.specs.Table.{tabulate}
use Rattle.text.proofs.Tables.{length_tabulate, get_d_tabulate, tabulate_ext}
use Rattle.values.specs.Values.{kind_from}
use Rattle.language.proofs.Members.{all_at, map_same}
use Rattle.sorting.specs.Listing.{Numbered}
use Rattle.sorting.proofs.Numbers.{numbered_below}
use Rattle.sorting.proofs.Orders.{bytes_total}
use Rattle.dictionary.specs.Items.{text_at}
use Rattle.register_form.specs.Dictionary.{PageRow, is_category, term_in, no_property}
use Rattle.register_form.specs.Form.{forms_of}
use Rattle.register_form.specs.Tests.{is_plain, is_plain_number}
use Rattle.register_form.specs.Draft.{Draft, once_behind, filtered, new_number, new_form, new_forms, assembled}
use Rattle.register_form.proofs.Lists.{mem_at, mem_flat}
use Rattle.buffer.proofs.Parts.{map_tabulate}
use Rattle.register_form_bytes.specs.Writing.{row_of, rows_of}
use Rattle.register_form.specs.Tables.{Tables, between, forms_at, draft_in}
use Rattle.register_form_assembly.specs.Terms.{term_by}
use Rattle.register_form_assembly.specs.Keeping.{of_pass, passed, kept_by, kept_on, Within}
use Rattle.register_form_assembly.proofs.Keepings.{once_append}
use Rattle.register_form_write.specs.Writer.{Found, page_by, tabled}
use Rattle.register_form_write.proofs.Renumbered.{text_count_lem, term_count_lem, plain_below, group_in, texts_are, number_is, terms_are, form_is}

-- What numbering found is that of the draft.
pub record Renumbering (t : Tables) (v : Found) : Type 0 where
  pub draft : Draft (draft_in t)
  pub small : (i : ℕ) → get_or t.codes i 0 < 2 ^ 64
  pub texts : Numbered order_of (text_at t.s t.starts t.lens) t.m v.refs v.nx v.numbers
  pub same : (f : ℕ) → f < t.nt → text_at v.table v.term_starts v.term_lens f ≡ term_by t.kinds v.numbers t.groups t.codes f
  pub terms : Numbered order_of (text_at v.table v.term_starts v.term_lens) t.nt v.term_refs v.nt v.term_numbers

-- What passes tests that agree.
pub filtered_mem : {A : Type 0} (p : A → Bool) (l : List A) {a : A} → Memᴰ a (filtered p l) → Memᴰ a l
unfolding filtered
filtered_mem p [] m = m
filtered_mem {A} p (x ∷ l) {a} m = go (p x) m (λ (n : Memᴰ a (filtered p l)). filtered_mem p l n)
  where
    head : (a ≡ x) ⊎ Memᴰ a (filtered p l) → (Memᴰ a (filtered p l) → Memᴰ a l) → Memᴰ a (x ∷ l)
    head (inl e) ih = Memᴰ.head e
    head (inr n) ih = Memᴰ.tail (ih n)

    go : (b : Bool) → Memᴰ a (cond b (x ∷ filtered p l) (filtered p l)) → (Memᴰ a (filtered p l) → Memᴰ a l) → Memᴰ a (x ∷ l)
    go true n ih = head (Memᴰ.cases_cons n) ih
    go false n ih = Memᴰ.tail (ih n)

filtered_same : {A : Type 0} (p q : A → Bool) (l : List A) → ((a : A) → Memᴰ a l → p a ≡ q a) → filtered p l ≡ filtered q l
unfolding filtered
filtered_same p q [] h = refl
filtered_same p q (x ∷ l) h = rw (h x (Memᴰ.head refl), filtered_same p q l (λ a m. h a (Memᴰ.tail m)))

between_mem : (uses : List ℕ) (from to f : ℕ) → from ≤ f → f < to → Memᴰ (get_or uses f 0) (between uses from to)
unfolding between
between_mem uses from to f a b =
    let e : from + (f - from) ≡ f = omega arith in
    Memᴰ.cast (sym (get_d_tabulate (to - from) (λ j. get_or uses (from + j) 0) 0 (f - from) (omega arith) ∙ ap (λ (k : ℕ). get_or uses k 0) e)) (mem_at (between uses from to) (f - from) 0 (rw length_tabulate (omega arith)))

module _ (t : Tables) (v : Found) (r : Renumbering t v) where
  -- Names, identifiers and forms are there.
  pub name_text : (p : ℕ) → p < t.np → (get_or t.names p 0 < t.m) × (is_plain (text_at t.s t.starts t.lens (get_or t.names p 0)) ≡ true)
  unfolding draft_in
  name_text p b =
      plain_below t (get_or t.names p 0)
      (all_at (λ q. is_plain_number (draft_in t) q.name) r.draft.names
      (Memᴰ.cast (sym (get_d_tabulate t.np (λ q. row_of (get_or t.kinds q 0) (get_or t.names q 0)) (no_property (draft_in t)) p b)) (mem_at (draft_in t).properties p (no_property (draft_in t)) (rw length_tabulate b))))

  page_mem : (i : ℕ) → i < t.ng → Memᴰ (record { identifier = get_or t.identifiers i 0; forms = forms_at t.uses t.firsts i }) (draft_in t).pages
  unfolding draft_in
  page_mem i b =
      let row : ℕ → PageRow = λ j. record { identifier = get_or t.identifiers j 0; forms = forms_at t.uses t.firsts j } in
      Memᴰ.cast (sym (get_d_tabulate t.ng row (row 0) i b)) (mem_at (draft_in t).pages i (row 0) (rw length_tabulate b))

  pub identifier_below : (i : ℕ) → i < t.ng → get_or t.identifiers i 0 < t.m
  identifier_below i b = omega (arith, ltb-true (get_or t.identifiers i 0) (length (draft_in t).texts) (all_at (λ q. ltb q.identifier (length (draft_in t).texts)) r.draft.identifiers (page_mem i b)), text_count_lem t)

  pub form_below : (i f : ℕ) → i < t.ng → Memᴰ f (forms_at t.uses t.firsts i) → f < t.nt
  form_below i f b m = omega (arith, ltb-true f (length (draft_in t).terms) (all_at (λ q. ltb q (length (draft_in t).terms)) r.draft.forms (mem_flat forms_of (page_mem i b) m)), term_count_lem t)

  pub number_below : (f : ℕ) → f < t.nt → get_or v.term_numbers f 0 < v.nt
  number_below f b = numbered_below order_of bytes_total (text_at v.table v.term_starts v.term_lens) t.nt v.term_refs v.nt v.term_numbers r.terms f b

  pub within : (size : ℕ) → v.nt ≤ size → Within v.term_numbers t.uses t.firsts t.ng size
  within size c i f b lo hi = omega (arith, number_below (get_or t.uses f 0) (form_below i (get_or t.uses f 0) b (between_mem t.uses (get_or t.firsts i 0) (get_or t.firsts (suc i) 0) f lo hi)))

  -- The forms that a page keeps.
  module _ (i : ℕ) (b : i < t.ng) where
    category_same : (f : ℕ) → Memᴰ f (forms_at t.uses t.firsts i) → is_category (term_in (draft_in t) f) ≡ of_pass true (get_or t.groups f 0)
    category_same f m = ap (λ (g : ℕ). eqb g 0) (group_in t r.draft r.small f (form_below i f b m))

    number_same : (first : Bool) (f : ℕ) → Memᴰ f (passed first t.groups (forms_at t.uses t.firsts i)) → new_form (draft_in t) f ≡ get_or v.term_numbers f 0
    unfolding passed
    number_same first f m =
        form_is t v.refs v.nx v.numbers r.texts r.draft r.small (text_at v.table v.term_starts v.term_lens) r.same v.term_refs v.nt v.term_numbers r.terms f
        (form_below i f b (filtered_mem (λ q. of_pass first (get_or t.groups q 0)) (forms_at t.uses t.firsts i) m))

    pub forms_kept : new_forms (draft_in t) (forms_at t.uses t.firsts i) ≡ kept_on t.groups v.term_numbers t.uses t.firsts i
    unfolding new_forms kept_on kept_by passed
    forms_kept =
        let l = forms_at t.uses t.firsts i in
        let one = passed true t.groups l in
        let two = passed false t.groups l in
        let cats : filtered (λ f. is_category (term_in (draft_in t) f)) l ≡ one = filtered_same (λ f. is_category (term_in (draft_in t) f)) (λ f. of_pass true (get_or t.groups f 0)) l category_same in
        let vals : filtered (λ f. not (is_category (term_in (draft_in t) f))) l ≡ two = filtered_same (λ f. not (is_category (term_in (draft_in t) f))) (λ f. of_pass false (get_or t.groups f 0)) l (λ f m. ap not (category_same f m)) in
        ap₂ (λ (x y : List ℕ). once_behind eqb [] (map (new_form (draft_in t)) (x ++ y))) cats vals
        ∙ ap (once_behind eqb [])
        (map-append (new_form (draft_in t)) one two
        ∙ ap₂ (λ (x y : List ℕ). x ++ y) (map_same (new_form (draft_in t)) (λ f. get_or v.term_numbers f 0) one (number_same true)) (map_same (new_form (draft_in t)) (λ f. get_or v.term_numbers f 0) two (number_same false)))
        ∙ once_append eqb [] (map (λ f. get_or v.term_numbers f 0) one) (map (λ f. get_or v.term_numbers f 0) two)

  -- Row by row.
  properties_are : rows_of t.kinds v.numbers t.names t.np ≡ (assembled (draft_in t)).properties
  unfolding rows_of assembled draft_in
  properties_are =
      tabulate_ext t.np (λ p. row_of (get_or t.kinds p 0) (get_or v.numbers (get_or t.names p 0) 0)) (λ p. row_of (get_or t.kinds p 0) (new_number (draft_in t) (get_or t.names p 0)))
      (λ p b j. record { kind = kind_from (get_or t.kinds p 0); name = sym (number_is t v.refs v.nx v.numbers r.texts (get_or t.names p 0) (name_text p b).0) j })
      ∙ sym (map_tabulate (λ p. record { kind = p.kind; name = new_number (draft_in t) p.name }) t.np (λ p. row_of (get_or t.kinds p 0) (get_or t.names p 0)))

  pages_are : tabulate t.ng (page_by t v) ≡ (assembled (draft_in t)).pages
  unfolding assembled draft_in
  pages_are =
      tabulate_ext t.ng (page_by t v) (λ i. record { identifier = new_number (draft_in t) (get_or t.identifiers i 0); forms = new_forms (draft_in t) (forms_at t.uses t.firsts i) })
      (λ i b j. record { identifier = sym (number_is t v.refs v.nx v.numbers r.texts (get_or t.identifiers i 0) (identifier_below i b)) j; forms = sym (forms_kept i b) j })
      ∙ sym (map_tabulate (λ p. record { identifier = new_number (draft_in t) p.identifier; forms = new_forms (draft_in t) p.forms }) t.ng (λ i. record { identifier = get_or t.identifiers i 0; forms = forms_at t.uses t.firsts i }))

  pub tabled_assembled : tabled t v ≡ assembled (draft_in t)
  unfolding tabled assembled
  tabled_assembled =
      let terms = terms_are t v.refs v.nx v.numbers r.texts r.draft r.small (text_at v.table v.term_starts v.term_lens) r.same v.term_refs v.nt v.term_numbers r.terms in
      let texts = texts_are t v.refs v.nx v.numbers r.texts in
      λ j. record { properties = properties_are j; pages = pages_are j; terms = terms j; texts = texts j }
