-- The bytes and the forms that a dictionary counts are those of the register that it describes.
use Prim.Native.Nat.{ℕ, ◌+◌}
use mathlib.Core.Path.{◌≡◌, refl, sym, ◌∙◌}
use mathlib.Core.Bool.{Bool, true, false, cond, ◌&&◌}
use mathlib.Core.List.{List, [], ◌∷◌, map}
use native.Mathlib.Omega.{arith}
use lib.Dec.{leb}
use lib.ListN.{length, length-map}
use Rattle.text.specs.Bytes.{Bytes}
use Rattle.values.specs.Spelling.{spelling}
use Rattle.language.specs.Rules.{total, forms_on, bytes_on, bytes_in, is_within_limits}
use Rattle.register_form.specs.Dictionary.{PageRow, Dictionary, space_of, name_of, is_category, text_in, term_in, category_of, held_of, categories_in, values_in, decode_property, decode_page, decode}
use Rattle.register_form.specs.Form.{forms_of}
use Rattle.register_form.specs.Tests.{term_uses, term_bytes, counted_bytes}
use Rattle.register_form.proofs.Totals.{total_same, total_both, total_mapped, total_flat, length_flat}

module _ (d : Dictionary) where
  pub properties_counted : length (decode d).properties ≡ length d.properties
  unfolding decode
  properties_counted = length-map d.properties (decode_property d)

  pub pages_counted : length (decode d).pages ≡ length d.pages
  unfolding decode
  pages_counted = length-map d.pages (decode_page d)

  terms_counted : (l : List Bytes) → length (categories_in d l) + length (values_in d l) ≡ length l
  unfolding categories_in values_in
  terms_counted [] = refl
  terms_counted (t ∷ l) = go (is_category t) (terms_counted l)
    where
      go : (b : Bool) → length (categories_in d l) + length (values_in d l) ≡ length l → length (cond b (category_of d t ∷ categories_in d l) (categories_in d l)) + length (cond b (values_in d l) (held_of d t ∷ values_in d l)) ≡ length (t ∷ l)
      go true e = omega arith
      go false e = omega arith

  page_forms : (r : PageRow) → forms_on (decode_page d r) ≡ length r.forms
  unfolding decode_page
  page_forms r = terms_counted (map (term_in d) r.forms) ∙ length-map r.forms (term_in d)

  pub forms_counted : total forms_on (decode d).pages ≡ length (term_uses d)
  unfolding decode
  forms_counted = total_mapped forms_on (decode_page d) d.pages ∙ total_same (λ r. forms_on (decode_page d r)) (λ r. length r.forms) d.pages page_forms ∙ sym (length_flat forms_of d.pages)

  term_bytes_lem : (l : List Bytes) → total (term_bytes d) l ≡ total length (categories_in d l) + total (λ h. length (spelling h.value)) (values_in d l)
  unfolding categories_in values_in total term_bytes
  term_bytes_lem [] = refl
  term_bytes_lem (t ∷ l) = go (is_category t) (term_bytes_lem l)
    where
      go : (b : Bool)
          → total (term_bytes d) l ≡ total length (categories_in d l) + total (λ h. length (spelling h.value)) (values_in d l)
          → cond b (length (category_of d t)) (length (spelling (held_of d t).value)) + total (term_bytes d) l
          ≡ total length (cond b (category_of d t ∷ categories_in d l) (categories_in d l)) + total (λ h. length (spelling h.value)) (cond b (values_in d l) (held_of d t ∷ values_in d l))
      go true e = omega arith
      go false e = omega arith

  page_bytes : (r : PageRow) → length (space_of (text_in d r.identifier)) + length (name_of (text_in d r.identifier)) + total (λ f. term_bytes d (term_in d f)) r.forms ≡ bytes_on (decode_page d r)
  unfolding decode_page
  page_bytes r = omega (arith, total_mapped (term_bytes d) (term_in d) r.forms, term_bytes_lem (map (term_in d) r.forms))

  pub bytes_counted : counted_bytes d ≡ bytes_in (decode d)
  unfolding counted_bytes bytes_in decode decode_property
  bytes_counted =
      let named : PageRow → ℕ = λ r. length (space_of (text_in d r.identifier)) + length (name_of (text_in d r.identifier)) in
      let held : PageRow → ℕ = λ r. total (λ f. term_bytes d (term_in d f)) r.forms in
      omega (
        arith,
        total_mapped (λ p. length p.name) (decode_property d) d.properties,
        total_flat (λ f. term_bytes d (term_in d f)) forms_of d.pages,
        total_both named held d.pages,
        total_same (λ r. named r + held r) (λ r. bytes_on (decode_page d r)) d.pages page_bytes,
        total_mapped bytes_on (decode_page d) d.pages,
      )

  -- The bytes that a page's identifier counts for.
  abbrev pub identifier_bytes : PageRow → ℕ
  identifier_bytes r = length (space_of (text_in d r.identifier)) + length (name_of (text_in d r.identifier))

  -- The limits, told by the counts.
  pub limits_counted : is_within_limits (decode d) ≡ (leb (length d.properties) 64 && leb (length d.pages) 256 && leb (length (term_uses d)) 2048 && leb (counted_bytes d) 32768)
  unfolding is_within_limits
  limits_counted = rw (properties_counted, pages_counted, forms_counted, bytes_counted)
