-- The test of the rules is exact: a canonical dictionary passes it where what it describes is a register.
use Rattle.std.specs.Prelude.{Some}
use Prim.Native.Nat.{ℕ, suc, ◌-◌, ◌≤◌, ◌<◌}
use mathlib.Core.Path.{◌≡◌, refl, sym, ap, ◌∙◌}
use mathlib.Core.Bool.{Bool, true, false, cond}
use mathlib.Core.List.Memᴰ
use mathlib.Core.List.{List, [], ◌∷◌, map, Memᴰ}
use native.Mathlib.Omega.{arith}
use lib.Dec.{leb, eqb}
use lib.ListN.{length, get_or}
use borrow.Author.Tests.{le-leb}
use Rattle.text.specs.Bytes.{Bytes, same, all}
use Rattle.values.specs.declared.Kind.{Kind}
use Rattle.names.specs.Names.{is_composed_name, is_composed_property_name}
use Rattle.values.specs.Values.{kind_of}
use Rattle.values.proofs.Sameness.{kind_refl}
use Rattle.language.specs.Register.{Property, Held, kind_among, kinds_of, has_kind, kinds_hold, distinct, same_property}
use Rattle.language.specs.RegisterText.{same_held}
use Rattle.language.specs.Rules.{is_identifier, is_storable, is_page, is_within_limits, is_register}
use Rattle.language.proofs.Members.{and_true, both_true, by_test, all_at, all_of, all_map}
use Rattle.language.proofs.Rules.{Ruled, RuledPage, page_rules, rules_page, register_rules, rules_register}
use Rattle.sorting.proofs.Canonical.{same_truth}
use Rattle.register_form.specs.Dictionary.{PageRow, Dictionary, name_of, group_of, term_code, is_category, value_from, text_in, term_in, property_in, category_of, held_of, categories_in, values_in, decode_property, decode_page, decode}
use Rattle.register_form.specs.Encoding.{place_among}
use Rattle.register_form.specs.Tests.{term_uses, keeps_term, keeps_property, keeps_page, counted_bytes, keeps_rules}
use Rattle.register_form.proofs.Truths.{each, all_mapped}
use Rattle.register_form.proofs.Rules.{undeclared}
use Rattle.register_form.proofs.Described.{Canon, Shaped, place_once, of_categories, of_values, category_mem, value_mem, declared, page_term_mem, term_on}
use Rattle.register_form.proofs.Distinct.{properties_once_lem, pages_once_lem, forms_once}
use Rattle.register_form.proofs.Counted.{properties_counted, pages_counted, forms_counted, bytes_counted}

-- A property that has a place has the kind that stands there.
kind_placed_lem : (l : List Property) (x : Bytes) (e : Property) → place_among l x < length l → kind_among l x ≡ Some (get_or l (place_among l x) e).kind
unfolding kind_among place_among
kind_placed_lem [] x e h = absurd (omega arith)
kind_placed_lem (p ∷ l) x e h = go (same p.name x) h (kind_placed_lem l x e)
  where
    go : (b : Bool) → cond b 0 (suc (place_among l x)) < length (p ∷ l) → (place_among l x < length l → kind_among l x ≡ Some (get_or l (place_among l x) e).kind) → cond b (Some p.kind) (kind_among l x) ≡ Some (get_or (p ∷ l) (cond b 0 (suc (place_among l x))) e).kind
    go true h ih = refl
    go false h ih = ih (omega arith)

-- What a code tells by a kind is of that kind.
kind_told : (l : List Bytes) (k : Kind) (n : ℕ) → has_kind (Some k) (kind_of (value_from l k n)) ≡ true
kind_told l Kind.Page n = refl
kind_told l (Kind.Scalar k) n = kind_refl (Kind.Scalar k)
kind_told l Kind.String n = refl

module _ (d : Dictionary) (c : Canon d) where
  -- The rules of names.
  properties_kept : all (keeps_property d) d.properties ≡ all (λ p. is_composed_property_name p.name) (decode d).properties
  unfolding decode decode_property keeps_property
  properties_kept = sym (all_mapped (decode_property d) (λ p. is_composed_property_name p.name) d.properties)

  page_kept : (r : PageRow) → keeps_page d r ≡ is_identifier (decode_page d r).identifier
  unfolding decode_page keeps_page
  page_kept r = refl

  -- The rules of terms: each term is on some page, and what is on a page is a term.
  category_kept : (t : Bytes) → is_category t ≡ true → keeps_term d t ≡ is_composed_name (category_of d t)
  unfolding keeps_term
  category_kept t e = rw e

  value_kept : (t : Bytes) → is_category t ≡ false → keeps_term d t ≡ is_storable (held_of d t).value
  unfolding keeps_term
  value_kept t e = rw e

  module _ (kept : all (keeps_term d) d.terms ≡ true) {r : PageRow} (m : Memᴰ r d.pages) where
    categories_kept : all is_composed_name (decode_page d r).categories ≡ true
    unfolding decode_page
    categories_kept =
        all_of is_composed_name (categories_in d (map (term_in d) r.forms))
        (λ x n. let q = of_categories d (map (term_in d) r.forms) n in ap is_composed_name q.3 ∙ sym (category_kept q.0 q.2) ∙ all_at (keeps_term d) kept (page_term_mem d c m q.1))

    values_kept : all (λ h. is_storable h.value) (decode_page d r).values ≡ true
    unfolding decode_page
    values_kept =
        all_of (λ h. is_storable h.value) (values_in d (map (term_in d) r.forms))
        (λ h n. let q = of_values d (map (term_in d) r.forms) n in ap (λ (h : Held). is_storable h.value) q.3 ∙ sym (value_kept q.0 q.2) ∙ all_at (keeps_term d) kept (page_term_mem d c m q.1))

  terms_kept : ((r : PageRow) → Memᴰ r d.pages → RuledPage (decode_page d r)) → all (keeps_term d) d.terms ≡ true
  unfolding decode_page
  terms_kept k =
      all_of (keeps_term d) d.terms
      (λ t m.
      let r = term_on d c m in
      by_test (is_category t)
      (λ e. category_kept t e ∙ all_at is_composed_name (k r.0 r.1).categories (category_mem d r.2 e))
      (λ e. value_kept t e ∙ all_at (λ h. is_storable h.value) (k r.0 r.1).values (value_mem d r.2 e)))

  limits_kept : length d.properties ≤ 64 → length d.pages ≤ 256 → length (term_uses d) ≤ 2048 → is_within_limits (decode d) ≡ leb (counted_bytes d) 32768
  unfolding is_within_limits
  limits_kept p g f =
      rw (properties_counted d, pages_counted d, forms_counted d, bytes_counted d, le-leb (length d.properties) 64 p, le-leb (length d.pages) 256 g, le-leb (length (term_uses d)) 2048 f)

  module _ (once : distinct same_property (decode d).properties ≡ true) where
    -- A value has its property's kind: its property is found by its name.
    value_kind : {t : Bytes} → Memᴰ t d.terms → is_category t ≡ false → has_kind (kinds_of (decode d) (held_of d t).property) (kind_of (held_of d t).value) ≡ true
    unfolding held_of decode_property
    value_kind {t} m e =
        let i = group_of t - 1 in
        let r = declared d c.terms m e in
        let name = ap (λ (p : Property). p.name) r.2 in
        let at : place_among (decode d).properties (name_of (text_in d (property_in d i).name)) ≡ i = ap (place_among (decode d).properties) (sym name) ∙ place_once (decode d).properties i undeclared once r.1 in
        let kind : kind_among (decode d).properties (name_of (text_in d (property_in d i).name)) ≡ Some (property_in d i).kind =
        kind_placed_lem (decode d).properties (name_of (text_in d (property_in d i).name)) undeclared (rw at r.1)
        ∙ ap (λ (n : ℕ). Some (get_or (decode d).properties n undeclared).kind) at
        ∙ ap (λ (p : Property). Some p.kind) r.2 in
        rw kind (kind_told d.texts (property_in d i).kind (term_code t))

    kinds_kept : kinds_hold (decode d) ≡ true
    unfolding kinds_hold decode decode_page
    kinds_kept =
        all_map (λ page. all (λ h. has_kind (kinds_of (decode d) h.property) (kind_of h.value)) page.values) (decode_page d) d.pages
        (λ r m.
        all_of (λ h. has_kind (kinds_of (decode d) h.property) (kind_of h.value)) (values_in d (map (term_in d) r.forms))
        (λ h n.
        let q = of_values d (map (term_in d) r.forms) n in
        ap (λ (h : Held). has_kind (kinds_of (decode d) h.property) (kind_of h.value)) q.3 ∙ value_kind (page_term_mem d c m q.1) q.2))

  -- The test of the rules tells whether a register is described.
  module _ (shaped : Shaped d) (p : length d.properties ≤ 64) (g : length d.pages ≤ 256) (f : length (term_uses d) ≤ 2048) where
    pages_ruled : distinct same_property (decode d).properties ≡ true → all (keeps_term d) d.terms ≡ true → all (keeps_page d) d.pages ≡ true → all (λ r. distinct eqb r.forms) d.pages ≡ true → all is_page (decode d).pages ≡ true
    unfolding decode
    pages_ruled once terms pages forms =
        all_map is_page (decode_page d) d.pages
        (λ r m.
        let t = and_true (distinct same (decode_page d r).categories) (distinct same_held (decode_page d r).values) (sym (forms_once d c once shaped m) ∙ all_at (λ r. distinct eqb r.forms) forms m) in
        rules_page (decode_page d r)
        (record {
          identifier = sym (page_kept r) ∙ all_at (keeps_page d) pages m;
          categories = categories_kept terms m;
          categories_once = t.0;
          values = values_kept terms m;
          values_once = t.1;
        }))

    ruled : keeps_rules d ≡ true → Ruled (decode d)
    unfolding keeps_rules
    ruled h =
        let k = each (all (keeps_property d) d.properties) (distinct eqb (map (λ p. p.name) d.properties) ∷ all (keeps_term d) d.terms ∷ all (keeps_page d) d.pages ∷ distinct eqb (map (λ r. r.identifier) d.pages) ∷ all (λ r. distinct eqb r.forms) d.pages ∷ leb (counted_bytes d) 32768 ∷ []) h in
        let once : distinct same_property (decode d).properties ≡ true = sym (properties_once_lem d c) ∙ k 1 in
        record {
          properties = sym properties_kept ∙ k 0;
          pages = pages_ruled once (k 2) (k 3) (k 5);
          properties_once = once;
          pages_once = sym (pages_once_lem d c) ∙ k 4;
          kinds = kinds_kept once;
          limits = limits_kept p g f ∙ k 6;
        }

    page_ruled : Ruled (decode d) → (r : PageRow) → Memᴰ r d.pages → RuledPage (decode_page d r)
    unfolding decode
    page_ruled k r m = page_rules (decode_page d r) (all_at is_page k.pages (Memᴰ.map (decode_page d) m))

    kept : Ruled (decode d) → keeps_rules d ≡ true
    unfolding keeps_rules
    kept k =
        rw (
          properties_kept ∙ k.properties,
          properties_once_lem d c ∙ k.properties_once,
          terms_kept (page_ruled k),
          all_of (keeps_page d) d.pages (λ r m. page_kept r ∙ (page_ruled k r m).identifier),
          pages_once_lem d c ∙ k.pages_once,
          all_of (λ r. distinct eqb r.forms) d.pages (λ r m. forms_once d c k.properties_once shaped m ∙ both_true (page_ruled k r m).categories_once (page_ruled k r m).values_once),
          sym (limits_kept p g f) ∙ k.limits,
        )

    pub rules_kept : keeps_rules d ≡ is_register (decode d)
    rules_kept = same_truth (keeps_rules d) (is_register (decode d)) (λ h. rules_register (decode d) (ruled h)) (λ h. kept (register_rules (decode d) h))
