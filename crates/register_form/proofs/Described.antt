-- What a canonical dictionary describes: its texts and terms are those of the register.
use Prim.Native.Nat.{ℕ, zero, suc, ◌-◌, ◌≤◌, ◌<◌}
use mathlib.Core.Path.{◌≡◌, refl, sym, ap, ◌∙◌, subst}
use mathlib.Core.Bool.{Bool, true, false, cond, not, ◌&&◌, false≢true}
use mathlib.Core.Logic.{◌⊎◌, inl, inr}
use mathlib.Core.List.Memᴰ
use mathlib.Core.List.{List, [], ◌∷◌, ◌++◌, map, flat_map, Memᴰ}
use native.Mathlib.Omega.{arith}
use lib.Dec.{ltb, leb, eqb}
use lib.ListN.{length, get_or, length-map}
use borrow.Author.Tests.{not-true, ltb-true, leb-true}
use Rattle.text.specs.Bytes.{Bytes, order_of, same, any, all}
use Rattle.text.proofs.Laws.{same_refl}
use Rattle.values.specs.declared.Kind.{Kind}
use Rattle.values.specs.Values.{Value}
use Rattle.language.specs.Register.{Property, Held, Page, distinct, same_property}
use Rattle.sorting.specs.Ascending.{ascends}
use Rattle.language.proofs.Members.{and_true, all_at, any_at, get_d_mapped}
use Rattle.register_form.specs.Dictionary.{PropertyRow, PageRow, Dictionary, name_of, identifier_of, term_of, group_of, term_code, is_category, value_from, text_in, term_in, property_in, no_property, category_of, held_of, categories_in, values_in, decode_property, decode_page, decode}
use Rattle.register_form.specs.Encoding.{plain_text, identifier_text, value_texts, place_among}
use Rattle.register_form.specs.Form.{forms_of}
use Rattle.register_form.specs.Tests.{is_labelled, is_plain, is_plain_number, is_code, is_term, in_order, is_page_row, code_texts, term_texts, text_uses, term_uses, every_used, is_canonical}
use Rattle.register_form.proofs.Truths.{each}
use Rattle.register_form.proofs.Rules.{undeclared}
use Rattle.register_form.proofs.Lists.{mem_at, mem_place, of_flat, used_mem}
use Rattle.register_form.proofs.Codes.{text_back, plain_back}
use Rattle.register_form.proofs.Canonical.{TextFrom}

pub record Canon (d : Dictionary) : Type 0 where
  pub up : ascends order_of d.texts ≡ true
  pub labels : all is_labelled d.texts ≡ true
  pub names : all (λ p. is_plain_number d p.name) d.properties ≡ true
  pub terms_up : ascends order_of d.terms ≡ true
  pub terms : all (is_term d) d.terms ≡ true
  pub pages : all (is_page_row d) d.pages ≡ true
  pub terms_used : every_used (length d.terms) (term_uses d) ≡ true
  pub texts_used : every_used (length d.texts) (text_uses d) ≡ true

pub canon : (d : Dictionary) → is_canonical d ≡ true → Canon d
unfolding is_canonical
canon d h =
    let k = each (ascends order_of d.texts) (all is_labelled d.texts ∷ all (λ p. is_plain_number d p.name) d.properties ∷ ascends order_of d.terms ∷ all (is_term d) d.terms ∷ all (is_page_row d) d.pages ∷ every_used (length d.terms) (term_uses d) ∷ every_used (length d.texts) (text_uses d) ∷ []) h in
    record { up = k 0; labels = k 1; names = k 2; terms_up = k 3; terms = k 4; pages = k 5; terms_used = k 6; texts_used = k 7 }

-- Every term is made of its group and its code.
abbrev pub Shaped : Dictionary → Type 0
Shaped d = (t : Bytes) → Memᴰ t d.terms → term_of (group_of t) (term_code t) ≡ t

-- A property that is there once stands in its own place.
pub place_once : (l : List Property) (i : ℕ) (e : Property) → distinct same_property l ≡ true → i < length l → place_among l (get_or l i e).name ≡ i
unfolding distinct place_among
place_once [] i e h b = absurd (omega arith)
place_once (p ∷ l) zero e h b = rw (same_refl p.name)
place_once (p ∷ l) (suc i) e h b =
    let t = and_true (not (any (same_property p) l)) (distinct same_property l) h in
    let other : same p.name (get_or l i e).name ≡ false = any_at (same_property p) (not-true (any (same_property p) l) t.0) (mem_at l i e (omega arith)) in
    rw (other, place_once l i e t.1 (omega arith))

module _ (d : Dictionary) where
  -- Categories and values among terms.
  pub of_categories : (l : List Bytes) {x : Bytes} → Memᴰ x (categories_in d l) → (t : Bytes) × Memᴰ t l × (is_category t ≡ true) × (x ≡ category_of d t)
  unfolding categories_in
  of_categories [] m = absurd (Memᴰ.not-nil m)
  of_categories (t ∷ l) {x} m = go (is_category t) refl m (λ (n : Memᴰ x (categories_in d l)). of_categories l n)
    where
      head : (is_category t ≡ true) → (x ≡ category_of d t) ⊎ Memᴰ x (categories_in d l) → (Memᴰ x (categories_in d l) → (t : Bytes) × Memᴰ t l × (is_category t ≡ true) × (x ≡ category_of d t)) → (s : Bytes) × Memᴰ s (t ∷ l) × (is_category s ≡ true) × (x ≡ category_of d s)
      head e (inl q) ih = (t, Memᴰ.head refl, e, q)
      head e (inr n) ih = let r = ih n in (r.0, Memᴰ.tail r.1, r.2, r.3)

      go : (b : Bool) → is_category t ≡ b → Memᴰ x (cond b (category_of d t ∷ categories_in d l) (categories_in d l)) → (Memᴰ x (categories_in d l) → (t : Bytes) × Memᴰ t l × (is_category t ≡ true) × (x ≡ category_of d t)) → (s : Bytes) × Memᴰ s (t ∷ l) × (is_category s ≡ true) × (x ≡ category_of d s)
      go true e n ih = head e (Memᴰ.cases_cons n) ih
      go false e n ih = let r = ih n in (r.0, Memᴰ.tail r.1, r.2, r.3)

  pub of_values : (l : List Bytes) {h : Held} → Memᴰ h (values_in d l) → (t : Bytes) × Memᴰ t l × (is_category t ≡ false) × (h ≡ held_of d t)
  unfolding values_in
  of_values [] m = absurd (Memᴰ.not-nil m)
  of_values (t ∷ l) {h} m = go (is_category t) refl m (λ (n : Memᴰ h (values_in d l)). of_values l n)
    where
      head : (is_category t ≡ false) → (h ≡ held_of d t) ⊎ Memᴰ h (values_in d l) → (Memᴰ h (values_in d l) → (t : Bytes) × Memᴰ t l × (is_category t ≡ false) × (h ≡ held_of d t)) → (s : Bytes) × Memᴰ s (t ∷ l) × (is_category s ≡ false) × (h ≡ held_of d s)
      head e (inl q) ih = (t, Memᴰ.head refl, e, q)
      head e (inr n) ih = let r = ih n in (r.0, Memᴰ.tail r.1, r.2, r.3)

      go : (b : Bool) → is_category t ≡ b → Memᴰ h (cond b (values_in d l) (held_of d t ∷ values_in d l)) → (Memᴰ h (values_in d l) → (t : Bytes) × Memᴰ t l × (is_category t ≡ false) × (h ≡ held_of d t)) → (s : Bytes) × Memᴰ s (t ∷ l) × (is_category s ≡ false) × (h ≡ held_of d s)
      go true e n ih = let r = ih n in (r.0, Memᴰ.tail r.1, r.2, r.3)
      go false e n ih = head e (Memᴰ.cases_cons n) ih

  pub category_mem : {t : Bytes} {l : List Bytes} → Memᴰ t l → is_category t ≡ true → Memᴰ (category_of d t) (categories_in d l)
  unfolding categories_in
  category_mem {t} (Memᴰ.head {x = s} {xs = l} e) c = Memᴰ.cast (ap (category_of d) e) (subst (λ (b : Bool). Memᴰ (category_of d s) (cond b (category_of d s ∷ categories_in d l) (categories_in d l))) (sym (ap is_category (sym e) ∙ c)) (Memᴰ.head refl))
  category_mem {t} (Memᴰ.tail {x = s} {xs = l} m) c = go (is_category s) (category_mem m c)
    where
      go : (b : Bool) → Memᴰ (category_of d t) (categories_in d l) → Memᴰ (category_of d t) (cond b (category_of d s ∷ categories_in d l) (categories_in d l))
      go true n = Memᴰ.tail n
      go false n = n

  pub value_mem : {t : Bytes} {l : List Bytes} → Memᴰ t l → is_category t ≡ false → Memᴰ (held_of d t) (values_in d l)
  unfolding values_in
  value_mem {t} (Memᴰ.head {x = s} {xs = l} e) c = Memᴰ.cast (ap (held_of d) e) (subst (λ (b : Bool). Memᴰ (held_of d s) (cond b (values_in d l) (held_of d s ∷ values_in d l))) (sym (ap is_category (sym e) ∙ c)) (Memᴰ.head refl))
  value_mem {t} (Memᴰ.tail {x = s} {xs = l} m) c = go (is_category s) (value_mem m c)
    where
      go : (b : Bool) → Memᴰ (held_of d t) (values_in d l) → Memᴰ (held_of d t) (cond b (values_in d l) (held_of d s ∷ values_in d l))
      go true n = n
      go false n = Memᴰ.tail n

  pub category_name : (t : Bytes) → category_of d t ≡ name_of (text_in d (term_code t))
  unfolding category_of
  category_name t = refl

  pub held_value : (t : Bytes) → (held_of d t).value ≡ value_from d.texts (property_in d (group_of t - 1)).kind (term_code t)
  unfolding held_of
  held_value t = refl

  pub decoded_name : (r : PropertyRow) → (decode_property d r).name ≡ name_of (text_in d r.name)
  unfolding decode_property
  decoded_name r = refl

  -- What a number of a name tells, and a term.
  pub plain_below : (x : ℕ) → is_plain_number d x ≡ true → x < length d.texts
  unfolding is_plain_number
  plain_below x h = ltb-true x (length d.texts) (and_true (ltb x (length d.texts)) (is_plain (text_in d x)) h).0

  pub plain_there : (x : ℕ) → is_plain_number d x ≡ true → is_plain (text_in d x) ≡ true
  unfolding is_plain_number
  plain_there x h = (and_true (ltb x (length d.texts)) (is_plain (text_in d x)) h).1

  module _ (fit : all (is_term d) d.terms ≡ true) where
    pub category_fits : {t : Bytes} → Memᴰ t d.terms → is_category t ≡ true → is_plain_number d (term_code t) ≡ true
    unfolding is_term
    category_fits m e = rw e at (all_at (is_term d) fit m)

    value_fits : {t : Bytes} → Memᴰ t d.terms → is_category t ≡ false → (leb (group_of t) (length d.properties) && is_code d (property_in d (group_of t - 1)).kind (term_code t)) ≡ true
    unfolding is_term
    value_fits m e = rw e at (all_at (is_term d) fit m)

    pub value_group_fits : {t : Bytes} → Memᴰ t d.terms → is_category t ≡ false → group_of t ≤ length d.properties
    value_group_fits {t} m e = leb-true (group_of t) (length d.properties) (and_true (leb (group_of t) (length d.properties)) (is_code d (property_in d (group_of t - 1)).kind (term_code t)) (value_fits m e)).0

    pub value_code_fits : {t : Bytes} → Memᴰ t d.terms → is_category t ≡ false → is_code d (property_in d (group_of t - 1)).kind (term_code t) ≡ true
    value_code_fits {t} m e = (and_true (leb (group_of t) (length d.properties)) (is_code d (property_in d (group_of t - 1)).kind (term_code t)) (value_fits m e)).1

    -- A value's property is declared, in the place before its group.
    pub declared : {t : Bytes} → Memᴰ t d.terms → is_category t ≡ false → (suc (group_of t - 1) ≡ group_of t) × (group_of t - 1 < length (decode d).properties) × (get_or (decode d).properties (group_of t - 1) undeclared ≡ decode_property d (property_in d (group_of t - 1)))
    unfolding decode
    declared {t} m e =
        let first : 1 ≤ group_of t = positive (group_of t) e in
        let most = value_group_fits m e in
        let size = length-map d.properties (decode_property d) in
        (omega arith, omega arith, get_d_mapped (decode_property d) d.properties (group_of t - 1) (no_property d) undeclared (omega arith))
      where
        positive : (n : ℕ) → eqb n 0 ≡ false → 1 ≤ n
        positive zero e = absurd (false≢true (sym e))
        positive (suc n) e = omega arith

  -- Where the number of a text is used.
  pub data Use (i : ℕ) : Type 0 where
    property : {r : PropertyRow} → Memᴰ r d.properties → r.name ≡ i → Use i
    page : {r : PageRow} → Memᴰ r d.pages → r.identifier ≡ i → Use i
    term : {t : Bytes} → Memᴰ t d.terms → Memᴰ i (term_texts d t) → Use i

  pub use_of : {i : ℕ} → Memᴰ i (text_uses d) → Use i
  unfolding text_uses
  use_of {i} m = go (Memᴰ.append_cases (map (λ p. p.name) d.properties) m)
    where
      rest : Memᴰ i (map (λ p. p.identifier) d.pages) ⊎ Memᴰ i (flat_map (term_texts d) d.terms) → Use i
      rest (inl n) = let q = Memᴰ.of_map (λ p. p.identifier) d.pages n in Use.page q.1 q.2
      rest (inr n) = let q = of_flat (term_texts d) d.terms n in Use.term q.1 q.2

      go : Memᴰ i (map (λ p. p.name) d.properties) ⊎ Memᴰ i (map (λ p. p.identifier) d.pages ++ flat_map (term_texts d) d.terms) → Use i
      go (inl n) = let q = Memᴰ.of_map (λ p. p.name) d.properties n in Use.property q.1 q.2
      go (inr n) = rest (Memᴰ.append_cases (map (λ p. p.identifier) d.pages) n)

  module _ (c : Canon d) where
    -- A text by its number.
    pub ident_text : (x : ℕ) → x < length d.texts → identifier_text (identifier_of (text_in d x)) ≡ text_in d x
    ident_text x b = text_back (text_in d x) (all_at is_labelled c.labels (mem_at d.texts x [] b))

    pub plain_text_lem : (x : ℕ) → is_plain_number d x ≡ true → plain_text (name_of (text_in d x)) ≡ text_in d x
    plain_text_lem x h = plain_back (text_in d x) (all_at is_labelled c.labels (mem_at d.texts x [] (plain_below x h))) (plain_there x h)

    -- A page's terms are terms.
    pub row_fits_lem : {r : PageRow} → Memᴰ r d.pages → is_page_row d r ≡ true
    row_fits_lem m = all_at (is_page_row d) c.pages m

    pub page_below : {r : PageRow} → Memᴰ r d.pages → r.identifier < length d.texts
    unfolding is_page_row
    page_below {r} m =
        let a = ltb r.identifier (length d.texts) in
        let b = all (λ f. ltb f (length d.terms)) r.forms in
        ltb-true r.identifier (length d.texts) (and_true a b (and_true (a && b) (in_order false (map (term_in d) r.forms)) (row_fits_lem m)).0).0

    pub form_below : {r : PageRow} {f : ℕ} → Memᴰ r d.pages → Memᴰ f r.forms → f < length d.terms
    unfolding is_page_row
    form_below {r} {f} m n =
        let a = ltb r.identifier (length d.texts) in
        let b = all (λ f. ltb f (length d.terms)) r.forms in
        ltb-true f (length d.terms) (all_at (λ f. ltb f (length d.terms)) (and_true a b (and_true (a && b) (in_order false (map (term_in d) r.forms)) (row_fits_lem m)).0).1 n)

    pub forms_ordered : {r : PageRow} → Memᴰ r d.pages → in_order false (map (term_in d) r.forms) ≡ true
    unfolding is_page_row
    forms_ordered {r} m =
        let a = ltb r.identifier (length d.texts) in
        let b = all (λ f. ltb f (length d.terms)) r.forms in
        (and_true (a && b) (in_order false (map (term_in d) r.forms)) (row_fits_lem m)).1

    pub page_term_mem : {r : PageRow} {t : Bytes} → Memᴰ r d.pages → Memᴰ t (map (term_in d) r.forms) → Memᴰ t d.terms
    page_term_mem {r} m n =
        let q = Memᴰ.of_map (term_in d) r.forms n in
        Memᴰ.cast (sym q.2) (mem_at d.terms q.0 [] (form_below m q.1))

    pub term_on : {t : Bytes} → Memᴰ t d.terms → (r : PageRow) × Memᴰ r d.pages × Memᴰ t (map (term_in d) r.forms)
    term_on {t} m =
        let q = mem_place [] m in
        let r = of_flat forms_of d.pages (used_mem (length d.terms) (term_uses d) c.terms_used q.0 q.1) in
        (r.0, r.1, Memᴰ.cast (sym q.2) (Memᴰ.map (term_in d) r.2))

    -- The text that a value's code names is a text of the value, and the other way round.
    pub value_text_in : (k : Kind) (n : ℕ) → is_code d k n ≡ true → {t : Bytes} → Memᴰ t (value_texts (value_from d.texts k n)) → Memᴰ t d.texts
    unfolding value_texts is_code
    value_text_in Kind.Page n h m =
        let b = ltb-true n (length d.texts) h in
        Memᴰ.cast (Memᴰ.eq_of_singleton m ∙ ident_text n b) (mem_at d.texts n [] b)
    value_text_in (Kind.Scalar k) n h m = absurd (Memᴰ.not-nil m)
    value_text_in Kind.String n h m = Memᴰ.cast (Memᴰ.eq_of_singleton m ∙ plain_text_lem n h) (mem_at d.texts n [] (plain_below n h))

    pub value_text_out : (k : Kind) (n : ℕ) → is_code d k n ≡ true → {i : ℕ} → Memᴰ i (code_texts d k n) → Memᴰ (text_in d i) (value_texts (value_from d.texts k n))
    unfolding value_texts is_code code_texts
    value_text_out Kind.Page n h m =
        let e = Memᴰ.eq_of_singleton m in
        Memᴰ.head (ap (text_in d) e ∙ sym (ident_text n (ltb-true n (length d.texts) h)))
    value_text_out (Kind.Scalar k) n h m = absurd (Memᴰ.not-nil m)
    value_text_out Kind.String n h m = let e = Memᴰ.eq_of_singleton m in Memᴰ.head (ap (text_in d) e ∙ sym (plain_text_lem n h))

    -- The texts of what is described are those of the dictionary.
    pub from_in : {t : Bytes} → TextFrom (decode d) t → Memᴰ t d.texts
    unfolding decode decode_property decode_page
    from_in (TextFrom.property m e) =
        let q = Memᴰ.of_map (decode_property d) d.properties m in
        let r = q.0 in
        let h = all_at (λ p. is_plain_number d p.name) c.names q.1 in
        Memᴰ.cast (e ∙ ap (λ (p : Property). plain_text p.name) (sym q.2) ∙ plain_text_lem r.name h) (mem_at d.texts r.name [] (plain_below r.name h))
    from_in (TextFrom.page m e) =
        let q = Memᴰ.of_map (decode_page d) d.pages m in
        let r = q.0 in
        let b = page_below q.1 in
        Memᴰ.cast (e ∙ ap (λ (p : Page). identifier_text p.identifier) (sym q.2) ∙ ident_text r.identifier b) (mem_at d.texts r.identifier [] b)
    from_in (TextFrom.category {x = x} m n e) =
        let q = Memᴰ.of_map (decode_page d) d.pages m in
        let r = of_categories (map (term_in d) q.0.forms) (subst (λ (p : Page). Memᴰ x p.categories) (sym q.2) n) in
        let h = category_fits c.terms (page_term_mem q.1 r.1) r.2 in
        Memᴰ.cast (e ∙ ap plain_text (r.3 ∙ category_name r.0) ∙ plain_text_lem (term_code r.0) h) (mem_at d.texts (term_code r.0) [] (plain_below (term_code r.0) h))
    from_in {t} (TextFrom.value {h = g} m n l) =
        let q = Memᴰ.of_map (decode_page d) d.pages m in
        let r = of_values (map (term_in d) q.0.forms) (subst (λ (p : Page). Memᴰ g p.values) (sym q.2) n) in
        let h = value_code_fits c.terms (page_term_mem q.1 r.1) r.2 in
        value_text_in (property_in d (group_of r.0 - 1)).kind (term_code r.0) h (subst (λ (v : Value). Memᴰ t (value_texts v)) (ap (λ (g : Held). g.value) r.3 ∙ held_value r.0) l)
