-- What a draft describes: when that is a register, and its counts.
use Rattle.std.specs.Prelude.{Some}
use Prim.Native.Nat.{ℕ, zero, suc, ◌+◌, ◌-◌, ◌<◌, ◌^◌}
use mathlib.Core.Path.{◌≡◌, refl, sym, ap, ap₂, ◌∙◌}
use mathlib.Core.Bool.{Bool, true, false, not, ◌&&◌}
use mathlib.Core.List.Memᴰ
use mathlib.Core.List.{List, [], ◌∷◌, map, flat_map, Memᴰ}
use native.Mathlib.Omega.{arith}
use lib.Dec.{leb, ltb, eqb}
use lib.ListN.{length, get_or}
use borrow.Author.Tests.{not-true, lt-ltb}
use Rattle.text.specs.Bytes.{Bytes, same, any, all}
use Rattle.text.proofs.Laws.{same_refl}
use Rattle.values.specs.declared.Kind.{Kind}
use Rattle.names.specs.Names.{is_composed_name, is_composed_property_name}
use Rattle.values.specs.Values.{kind_of}
use Rattle.language.specs.Register.{Property, Held, Page, Register, kind_among, has_kind, kinds_hold, distinct, same_property, same_page}
use Rattle.language.specs.RegisterText.{same_held}
use Rattle.language.specs.Rules.{is_storable, is_page, total, forms_on, bytes_in, is_within_limits, is_register}
use Rattle.language.proofs.Members.{and_true, by_test, any_at, all_at, all_of, all_map, get_d_mapped}
use Rattle.language.proofs.Unions.{by_key, distinct_kept}
use Rattle.language.proofs.Sameness.{same_likeness, same_held_likeness, same_page_likeness}
use Rattle.values.proofs.Sameness.{kind_refl}
use Rattle.language.proofs.Rules.{RuledPage, rules_page, rules_register}
use Rattle.register_form.specs.Dictionary.{PageRow, Dictionary, space_of, name_of, group_of, term_code, is_category, value_from, text_in, term_in, property_in, no_property, held_of, categories_in, values_in, decode_property, decode_page, decode}
use Rattle.register_form.specs.Form.{forms_of}
use Rattle.register_form.specs.Tests.{term_uses, keeps_term, keeps_property, keeps_page, term_bytes, counted_bytes}
use Rattle.register_form.specs.Draft.{once, page_once, drafted, Draft, new_number, new_term, new_form, categories_first, new_forms, new_property, new_page, assembled}
use Rattle.register_form.proofs.Lists.{mem_at, of_flat}
use Rattle.register_form.proofs.Totals.{total_mapped, total_flat, total_members}
use lib.ListN.{length-map}
use Rattle.register_form.proofs.Described.{Canon, Shaped, of_categories, of_values, page_below, form_below}
use Rattle.register_form.proofs.Once.{eqb_decides, likeness, of_once, distinct_once, once_map}
use Rattle.register_form.proofs.Renumbered.{new_text, new_name, new_kind, value_place, properties_many, pages_many, category_kept, held_kept}
use Rattle.register_form.proofs.Arranged.{form_small, form_term_lem, identifier_small, of_first, new_form_term}
use Rattle.register_form.proofs.Assembled.{assembled_describes}
use Rattle.register_form.proofs.Counted.{identifier_bytes, forms_counted, bytes_counted, limits_counted}

-- A property that is there once has its own kind.
kind_once : (l : List Property) (i : ℕ) (e : Property) → distinct same_property l ≡ true → i < length l → kind_among l (get_or l i e).name ≡ Some (get_or l i e).kind
unfolding distinct kind_among
kind_once [] i e h b = absurd (omega arith)
kind_once (p ∷ l) zero e h b = rw (same_refl p.name)
kind_once (p ∷ l) (suc i) e h b =
    let t = and_true (not (any (same_property p) l)) (distinct same_property l) h in
    rw (any_at (same_property p) (not-true (any (same_property p) l) t.0) (mem_at l i e (omega arith))) (kind_once l i e t.1 (omega arith))

-- The value of a kind that a code tells is of that kind.
pub value_from_kind : (texts : List Bytes) (k : Kind) (c : ℕ) → kind_of (value_from texts k c) ≡ k
value_from_kind texts Kind.Page c = refl
value_from_kind texts (Kind.Scalar k) c = refl
value_from_kind texts Kind.String c = refl

-- The forms of a page of a draft, categories first, of those with one new number the first.
abbrev pub kept_forms : Dictionary → List ℕ → List ℕ
kept_forms d l = once (λ f g. eqb (new_form d f) (new_form d g)) (categories_first d l)

module _ (d : Dictionary) (k : Draft d) where
  -- The terms of a page are terms of the draft.
  draft_term : {r : PageRow} {t : Bytes} → Memᴰ r d.pages → Memᴰ t (map (term_in d) r.forms) → Memᴰ t d.terms
  draft_term {r} m n =
      let q = Memᴰ.of_map (term_in d) r.forms n in
      Memᴰ.cast (sym q.2) (form_term_lem d k m q.1)

  -- A value has its property's kind.
  held_kind : {t : Bytes} → Memᴰ t d.terms → is_category t ≡ false → has_kind (kind_among (decode d).properties (held_of d t).property) (kind_of (held_of d t).value) ≡ true
  unfolding decode decode_property held_of
  held_kind {t} m e =
      let i = group_of t - 1 in
      let None : Property = record { name = []; kind = Kind.Page } in
      let b = value_place d k m e in
      let size = length-map d.properties (decode_property d) in
      let at = get_d_mapped (decode_property d) d.properties i (no_property d) None b in
      let kind = kind_once (map (decode_property d) d.properties) i None k.properties_once (omega arith) in
      let found : kind_among (map (decode_property d) d.properties) (name_of (text_in d (property_in d i).name)) ≡ Some (property_in d i).kind =
      ap (λ (p : Property). kind_among (map (decode_property d) d.properties) p.name) (sym at) ∙ kind ∙ ap (λ (p : Property). Some p.kind) at in
      rw (found, value_from_kind d.texts (property_in d i).kind (term_code t)) (kind_refl (property_in d i).kind)

  -- What is tested of each page.
  drafted_pages : (p : Page → Bool) → ((r : PageRow) → Memᴰ r d.pages → p (page_once (decode_page d r)) ≡ true) → all p (drafted d).pages ≡ true
  unfolding drafted decode
  drafted_pages p h =
      all_map p page_once (map (decode_page d) d.pages) (λ a n. let q = Memᴰ.of_map (decode_page d) d.pages n in rw (← q.2) (h q.0 q.1))

  pub drafted_kinds : kinds_hold (drafted d) ≡ true
  unfolding kinds_hold drafted decode_page
  drafted_kinds = drafted_pages (λ p. all fits p.values) (λ r m. all_of fits (once same_held (values_in d (map (term_in d) r.forms))) (one r m))
    where
      fits : Held → Bool
      fits h = has_kind (kind_among (decode d).properties h.property) (kind_of h.value)

      one : (r : PageRow) → Memᴰ r d.pages → (h : Held) → Memᴰ h (once same_held (values_in d (map (term_in d) r.forms))) → fits h ≡ true
      one r m h n =
          let q = of_values d (map (term_in d) r.forms) (of_once same_held_likeness (values_in d (map (term_in d) r.forms)) n) in
          ap fits q.3 ∙ held_kind (draft_term m q.1) q.2

  -- A draft whose terms and rows keep the rules describes a register.
  module _
      (terms : all (keeps_term d) d.terms ≡ true)
      (properties : all (keeps_property d) d.properties ≡ true)
      (pages : all (keeps_page d) d.pages ≡ true)
    where
      names_ruled : all (λ p. is_composed_property_name p.name) (decode d).properties ≡ true
      unfolding decode decode_property keeps_property
      names_ruled = all_map (λ p. is_composed_property_name p.name) (decode_property d) d.properties (λ p m. all_at (keeps_property d) properties m)

      category_ruled : {r : PageRow} {x : Bytes} → Memᴰ r d.pages → Memᴰ x (categories_in d (map (term_in d) r.forms)) → is_composed_name x ≡ true
      unfolding keeps_term
      category_ruled {r} m n =
          let q = of_categories d (map (term_in d) r.forms) n in
          ap is_composed_name q.3 ∙ (rw q.2 at (all_at (keeps_term d) terms (draft_term m q.1)))

      value_ruled : {r : PageRow} {h : Held} → Memᴰ r d.pages → Memᴰ h (values_in d (map (term_in d) r.forms)) → is_storable h.value ≡ true
      unfolding keeps_term
      value_ruled {r} m n =
          let q = of_values d (map (term_in d) r.forms) n in
          ap (λ (h : Held). is_storable h.value) q.3 ∙ (rw q.2 at (all_at (keeps_term d) terms (draft_term m q.1)))

      page_ruled : {r : PageRow} → Memᴰ r d.pages → RuledPage (page_once (decode_page d r))
      unfolding decode_page keeps_page
      page_ruled {r} m =
          let cs = categories_in d (map (term_in d) r.forms) in
          let vs = values_in d (map (term_in d) r.forms) in
          record {
            identifier = all_at (keeps_page d) pages m;
            categories = all_of is_composed_name (once same cs) (λ x n. category_ruled m (of_once same_likeness cs n));
            categories_once = distinct_once same_likeness cs;
            values = all_of (λ h. is_storable h.value) (once same_held vs) (λ h n. value_ruled m (of_once same_held_likeness vs n));
            values_once = distinct_once same_held_likeness vs;
          }

      pages_ruled : all is_page (drafted d).pages ≡ true
      pages_ruled = drafted_pages is_page (λ r m. rules_page (page_once (decode_page d r)) (page_ruled m))

      pub drafted_rules : distinct same_page (decode d).pages ≡ true → is_within_limits (drafted d) ≡ true → is_register (drafted d) ≡ true
      unfolding drafted
      drafted_rules pages_once limits =
          rules_register (drafted d)
          (record {
            properties = names_ruled;
            pages = pages_ruled;
            properties_once = k.properties_once;
            pages_once = distinct_kept same_page_likeness page_once (λ a b. refl) (decode d).pages ∙ pages_once;
            kinds = drafted_kinds;
            limits = limits;
          })

  -- The counts of the register are those of what the writer makes.
  pub drafted_forms : total forms_on (drafted d).pages ≡ length (term_uses (assembled d))
  drafted_forms = ap (λ (R : Register). total forms_on R.pages) (sym (assembled_describes d k)) ∙ forms_counted (assembled d)

  pub drafted_bytes : bytes_in (drafted d) ≡ counted_bytes (assembled d)
  drafted_bytes = ap bytes_in (sym (assembled_describes d k)) ∙ sym (bytes_counted (assembled d))

  pub drafted_limits : is_within_limits (drafted d) ≡ (leb (length d.properties) 64 && leb (length d.pages) 256 && leb (length (term_uses (assembled d))) 2048 && leb (counted_bytes (assembled d)) 32768)
  drafted_limits = ap is_within_limits (sym (assembled_describes d k)) ∙ limits_counted (assembled d) ∙ rw (properties_many d k, pages_many d k)

  pub forms_kept : (l : List ℕ) → new_forms d l ≡ map (new_form d) (kept_forms d l)
  unfolding new_forms
  forms_kept l = once_map (by_key eqb_decides (new_form d)) (likeness eqb_decides) (new_form d) (categories_first d l) (λ a b m n. refl)

  -- A new term counts for as many bytes as the old one.
  pub term_bytes_kept : {t : Bytes} → Memᴰ t d.terms → term_bytes (assembled d) (new_term d t) ≡ term_bytes d t
  unfolding term_bytes
  term_bytes_kept {t} m =
      by_test (is_category t)
      (λ e. rw (new_kind d k t, e, category_kept d k m e))
      (λ e. rw (new_kind d k t, e, held_kept d k m e))

  form_bytes_lem : {r : PageRow} → Memᴰ r d.pages → total (λ f. term_bytes (assembled d) (term_in (assembled d) f)) (new_forms d r.forms) ≡ total (λ f. term_bytes d (term_in d f)) (kept_forms d r.forms)
  form_bytes_lem {r} m =
      ap (total (λ f. term_bytes (assembled d) (term_in (assembled d) f))) (forms_kept r.forms)
      ∙ total_mapped (λ f. term_bytes (assembled d) (term_in (assembled d) f)) (new_form d) (kept_forms d r.forms)
      ∙ total_members (λ f. term_bytes (assembled d) (term_in (assembled d) (new_form d f))) (λ f. term_bytes d (term_in d f)) (kept_forms d r.forms) one
    where
      one : (f : ℕ) → Memᴰ f (kept_forms d r.forms) → term_bytes (assembled d) (term_in (assembled d) (new_form d f)) ≡ term_bytes d (term_in d f)
      one f n =
          let b = form_small d k m (of_first d k r.forms (of_once (by_key eqb_decides (new_form d)) (categories_first d r.forms) n)) in
          ap (term_bytes (assembled d)) (new_form_term d k f b) ∙ term_bytes_kept (mem_at d.terms f [] b)

  -- The bytes, counted by the rows of the draft and the forms that are kept.
  pub kept_bytes :
      counted_bytes (assembled d)
      ≡ total (λ p. length (name_of (text_in d p.name))) d.properties
      + total (identifier_bytes d) d.pages
      + total (λ r. total (λ f. term_bytes d (term_in d f)) (kept_forms d r.forms)) d.pages
  unfolding counted_bytes assembled
  kept_bytes = ap₂ ◌+◌ (ap₂ ◌+◌ names identifiers) forms
    where
      names : total (λ p. length (name_of (text_in (assembled d) p.name))) (map (new_property d) d.properties) ≡ total (λ p. length (name_of (text_in d p.name))) d.properties
      names =
          total_mapped (λ p. length (name_of (text_in (assembled d) p.name))) (new_property d) d.properties
          ∙ total_members (λ p. length (name_of (text_in (assembled d) (new_number d p.name)))) (λ p. length (name_of (text_in d p.name))) d.properties (λ p m. ap (λ t. length (name_of t)) (new_name d k m))

      identifiers : total (identifier_bytes (assembled d)) (map (new_page d) d.pages) ≡ total (identifier_bytes d) d.pages
      identifiers =
          total_mapped (identifier_bytes (assembled d)) (new_page d) d.pages
          ∙ total_members (λ r. identifier_bytes (assembled d) (new_page d r)) (identifier_bytes d) d.pages (λ r m. ap (λ t. length (space_of t) + length (name_of t)) (new_text d k r.identifier (identifier_small d k m)))

      forms : total (λ f. term_bytes (assembled d) (term_in (assembled d) f)) (flat_map forms_of (map (new_page d) d.pages)) ≡ total (λ r. total (λ f. term_bytes d (term_in d f)) (kept_forms d r.forms)) d.pages
      forms =
          total_flat (λ f. term_bytes (assembled d) (term_in (assembled d) f)) forms_of (map (new_page d) d.pages)
          ∙ total_mapped (λ r. total (λ f. term_bytes (assembled d) (term_in (assembled d) f)) r.forms) (new_page d) d.pages
          ∙ total_members (λ r. total (λ f. term_bytes (assembled d) (term_in (assembled d) f)) (new_forms d r.forms)) (λ r. total (λ f. term_bytes d (term_in d f)) (kept_forms d r.forms)) d.pages (λ r m. form_bytes_lem m)

-- A canonical dictionary is a draft of what it describes.
pub canon_draft : (d : Dictionary) → Canon d → distinct same_property (decode d).properties ≡ true → Shaped d → length d.texts < 2 ^ 64 → Draft d
canon_draft d c properties_once shaped few =
    record {
      labels = c.labels;
      names = c.names;
      identifiers = all_of (λ r. ltb r.identifier (length d.texts)) d.pages (λ r m. lt-ltb r.identifier (length d.texts) (page_below d c m));
      terms = c.terms;
      forms = all_of (λ f. ltb f (length d.terms)) (term_uses d) (λ f m. let r = of_flat forms_of d.pages m in lt-ltb f (length d.terms) (form_below d c r.1 r.2));
      terms_used = c.terms_used;
      texts_used = c.texts_used;
      properties_once = properties_once;
      shaped = λ i b. shaped (term_in d i) (mem_at d.terms i [] b);
      few = few;
    }
