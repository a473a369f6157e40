-- In a dictionary no number is there twice exactly where, in what it describes, nothing is.
use Prim.Native.Nat.{ℕ}
use mathlib.Core.Path.{◌≡◌, sym, ap, ap₂, ◌∙◌}
use mathlib.Core.Bool.{true, false, ◌&&◌, true≢false}
use mathlib.Core.List.Memᴰ
use mathlib.Core.List.{map, Memᴰ}
use lib.Dec.{eqb}
use Rattle.text.specs.Bytes.{Bytes, same}
use Rattle.language.specs.Register.{Held, distinct, same_property, same_page}
use Rattle.language.specs.RegisterText.{same_held}
use Rattle.language.proofs.Members.{by_test, all_at}
use Rattle.language.proofs.Sameness.{same_decides, same_identifier_decides, same_held_decides}
use Rattle.register_form.specs.Dictionary.{PropertyRow, PageRow, Dictionary, name_of, identifier_of, is_category, text_in, term_in, category_of, held_of, decode_property, decode_page, decode}
use Rattle.register_form.specs.Encoding.{plain_text, identifier_text, category_term, value_term, page_terms}
use Rattle.register_form.specs.Tests.{is_plain_number}
use Rattle.register_form.proofs.Truths.{eqb_decides, told, distinct_mapped, distinct_same, distinct_apart}
use Rattle.register_form.proofs.Lists.{number_one}
use Rattle.register_form.proofs.Decoded.{category_group, value_group}
use Rattle.register_form.proofs.Described.{Canon, Shaped, of_categories, of_values, ident_text, plain_below, plain_text_lem, page_below, form_below, page_term_mem}
use Rattle.register_form.proofs.Encoded.{category_back, value_back, page_terms_back}

module _ (d : Dictionary) (c : Canon d) where
  -- Numbers of texts are one exactly where what the texts tell is one.
  name_told : {p q : PropertyRow} → Memᴰ p d.properties → Memᴰ q d.properties → eqb p.name q.name ≡ same_property (decode_property d p) (decode_property d q)
  unfolding decode_property
  name_told {p} {q} m n =
      let h = all_at (λ p. is_plain_number d p.name) c.names m in
      let k = all_at (λ p. is_plain_number d p.name) c.names n in
      told eqb_decides same_decides p.name q.name (name_of (text_in d p.name)) (name_of (text_in d q.name)) (ap (λ (x : ℕ). name_of (text_in d x)))
      (λ e. number_one d.texts c.up p.name q.name (plain_below d p.name h) (plain_below d q.name k) (sym (plain_text_lem d c p.name h) ∙ ap plain_text e ∙ plain_text_lem d c q.name k))

  identifier_told : {p q : PageRow} → Memᴰ p d.pages → Memᴰ q d.pages → eqb p.identifier q.identifier ≡ same_page (decode_page d p) (decode_page d q)
  unfolding decode_page
  identifier_told {p} {q} m n =
      let a = page_below d c m in
      let b = page_below d c n in
      told eqb_decides same_identifier_decides p.identifier q.identifier (identifier_of (text_in d p.identifier)) (identifier_of (text_in d q.identifier)) (ap (λ (x : ℕ). identifier_of (text_in d x)))
      (λ e. number_one d.texts c.up p.identifier q.identifier a b (sym (ident_text d c p.identifier a) ∙ ap identifier_text e ∙ ident_text d c q.identifier b))

  -- No name and no identifier is there twice.
  pub properties_once_lem : distinct eqb (map (λ p. p.name) d.properties) ≡ distinct same_property (decode d).properties
  unfolding decode
  properties_once_lem =
      distinct_mapped (λ p. p.name) eqb d.properties
      ∙ distinct_same (λ p q. eqb p.name q.name) (λ p q. same_property (decode_property d p) (decode_property d q)) d.properties (λ p q m n. name_told m n)
      ∙ sym (distinct_mapped (decode_property d) same_property d.properties)

  pub pages_once_lem : distinct eqb (map (λ p. p.identifier) d.pages) ≡ distinct same_page (decode d).pages
  unfolding decode
  pages_once_lem =
      distinct_mapped (λ p. p.identifier) eqb d.pages
      ∙ distinct_same (λ p q. eqb p.identifier q.identifier) (λ p q. same_page (decode_page d p) (decode_page d q)) d.pages (λ p q m n. identifier_told m n)
      ∙ sym (distinct_mapped (decode_page d) same_page d.pages)

  module _ (once : distinct same_property (decode d).properties ≡ true) (shaped : Shaped d) {r : PageRow} (m : Memᴰ r d.pages) where
    -- The term of a category or of a value of the page tells it.
    category_again : {x : Bytes} → Memᴰ x (decode_page d r).categories → category_of d (category_term (decode d) x) ≡ x
    unfolding decode_page
    category_again n =
        let q = of_categories d (map (term_in d) r.forms) n in
        ap (λ (y : Bytes). category_of d (category_term (decode d) y)) q.3 ∙ ap (category_of d) (category_back d c once shaped (page_term_mem d c m q.1) q.2) ∙ sym q.3

    value_again : {h : Held} → Memᴰ h (decode_page d r).values → held_of d (value_term (decode d) h) ≡ h
    unfolding decode_page
    value_again n =
        let q = of_values d (map (term_in d) r.forms) n in
        ap (λ (g : Held). held_of d (value_term (decode d) g)) q.3 ∙ ap (held_of d) (value_back d c once shaped (page_term_mem d c m q.1) q.2) ∙ sym q.3

    -- A category's term is no value's.
    terms_apart : (a b : Bytes) → Memᴰ a (map (category_term (decode d)) (decode_page d r).categories) → Memᴰ b (map (value_term (decode d)) (decode_page d r).values) → same a b ≡ false
    terms_apart a b n k =
        let p = Memᴰ.of_map (category_term (decode d)) (decode_page d r).categories n in
        let q = Memᴰ.of_map (value_term (decode d)) (decode_page d r).values k in
        by_test (same a b)
        (λ e. absurd (true≢false (sym (category_group (decode d) p.0) ∙ ap is_category (p.2 ∙ same_decides.equal a b e ∙ sym q.2) ∙ value_group (decode d) q.0)))
        (λ e. e)

    -- No form is there twice exactly where no category and no value is.
    pub forms_once : distinct eqb r.forms ≡ (distinct same (decode_page d r).categories && distinct same_held (decode_page d r).values)
    unfolding page_terms
    forms_once =
        let cats = (decode_page d r).categories in
        let vals = (decode_page d r).values in
        let term = category_term (decode d) in
        let held = value_term (decode d) in
        distinct_same eqb (λ f g. same (term_in d f) (term_in d g)) r.forms
        (λ f g i j. told eqb_decides same_decides f g (term_in d f) (term_in d g) (ap (term_in d)) (number_one d.terms c.terms_up f g (form_below d c m i) (form_below d c m j)))
        ∙ sym (distinct_mapped (term_in d) same r.forms)
        ∙ ap (distinct same) (sym (page_terms_back d c once shaped m))
        ∙ distinct_apart same (map term cats) (map held vals) terms_apart
        ∙ ap₂ ◌&&◌
        (distinct_mapped term same cats
        ∙ distinct_same (λ x y. same (term x) (term y)) same cats
        (λ x y i j. told same_decides same_decides (term x) (term y) x y (λ e. sym (category_again i) ∙ ap (category_of d) e ∙ category_again j) (ap term)))
        (distinct_mapped held same vals
        ∙ distinct_same (λ x y. same (held x) (held y)) same_held vals
        (λ x y i j. told same_decides same_held_decides (held x) (held y) x y (λ e. sym (value_again i) ∙ ap (held_of d) e ∙ value_again j) (ap held)))
