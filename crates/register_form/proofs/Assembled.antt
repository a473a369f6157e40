-- What the writer makes of a draft is the dictionary of the register that the draft describes.
use mathlib.Core.Path.{◌≡◌, refl, sym, ap, ◌∙◌}
use mathlib.Core.Bool.{Bool, true, false, cond, not}
use mathlib.Core.List.Memᴰ
use mathlib.Core.List.{List, [], ◌∷◌, map, map-map, Memᴰ}
use borrow.Author.Tests.{not-true}
use Rattle.text.specs.Bytes.{Bytes, same}
use Rattle.text.proofs.Laws.{same_eq}
use Rattle.language.specs.RegisterText.{same_held}
use Rattle.language.proofs.Members.{map_same}
use Rattle.language.proofs.Unions.{Decides}
use Rattle.language.proofs.Sameness.{same_decides, same_likeness, same_held_decides}
use Rattle.register_form.specs.Dictionary.{PageRow, Dictionary, is_category, identifier_of, term_in, category_of, held_of, categories_in, values_in, decode_page, decode}
use Rattle.register_form.specs.Encoding.{category_term, value_term, encode}
use Rattle.register_form.specs.Draft.{once, page_once, drafted, Draft, filtered, new_term, categories_first, new_forms, new_page, assembled}
use Rattle.register_form.proofs.Encoded.{category_back, value_back, encoded}
use Rattle.register_form.proofs.Once.{likeness, test_kept, once_filtered, once_map}
use Rattle.register_form.proofs.Filtered.{filtered_map, of_filtered, split_passes, split_fails}
use Rattle.register_form.proofs.Arranged.{form_term_lem, identifier_small, of_first, new_terms, new_term_mem, assembled_canon, assembled_shaped, properties_kept, properties_once_lem}
use Rattle.register_form.proofs.Renumbered.{new_text, new_kind, category_kept, held_kept}

-- Categories and values are those among the terms that are categories, and the others.
pub categories_filtered : (d : Dictionary) (l : List Bytes) → categories_in d l ≡ map (category_of d) (filtered is_category l)
unfolding categories_in filtered
categories_filtered d [] = refl
categories_filtered d (t ∷ l) = rw (categories_filtered d l) (go (is_category t))
  where
    go : (b : Bool) → cond b (category_of d t ∷ map (category_of d) (filtered is_category l)) (map (category_of d) (filtered is_category l)) ≡ map (category_of d) (cond b (t ∷ filtered is_category l) (filtered is_category l))
    go true = refl
    go false = refl

pub values_filtered : (d : Dictionary) (l : List Bytes) → values_in d l ≡ map (held_of d) (filtered (λ t. not (is_category t)) l)
unfolding values_in filtered
values_filtered d [] = refl
values_filtered d (t ∷ l) = rw (values_filtered d l) (go (is_category t))
  where
    go : (b : Bool) → cond b (map (held_of d) (filtered (λ t. not (is_category t)) l)) (held_of d t ∷ map (held_of d) (filtered (λ t. not (is_category t)) l)) ≡ map (held_of d) (cond (not b) (t ∷ filtered (λ t. not (is_category t)) l) (filtered (λ t. not (is_category t)) l))
    go true = refl
    go false = refl

abbrev passes : (Bool → Bool) → Bytes → Bool
passes q t = q (is_category t)

module _ (d : Dictionary) (k : Draft d) where
  -- A page's new forms tell what its forms told, once: of categories or of values, by what is told of a term.
  module _
      {r : PageRow}
      (m : Memᴰ r d.pages)
      {B : Type 0}
      {like : B → B → Bool}
      (s : Decides like)
      (q : Bool → Bool)
      (f g : Bytes → B)
      (told : (t : Bytes) → Memᴰ t d.terms → q (is_category t) ≡ true → f (new_term d t) ≡ g t)
      (one : (z w : Bytes) → Memᴰ z (assembled d).terms → Memᴰ w (assembled d).terms → q (is_category z) ≡ true → q (is_category w) ≡ true → f z ≡ f w → z ≡ w)
      (split : filtered (λ i. q (is_category (term_in d i))) (categories_first d r.forms) ≡ filtered (λ i. q (is_category (term_in d i))) r.forms)
    where
      forms_told : map f (filtered (passes q) (map (term_in (assembled d)) (new_forms d r.forms))) ≡ once like (map g (filtered (passes q) (map (term_in d) r.forms)))
      forms_told =
          let ts = map (term_in d) (categories_first d r.forms) in
          let zs = map (new_term d) ts in
          ap (λ l. map f (filtered (passes q) l)) (new_terms d k m)
          ∙ ap (map f) (sym (once_filtered same_likeness (passes q) (λ a b e. ap (passes q) (same_eq a b e)) zs))
          ∙ sym (once_map same_likeness (likeness s) f (filtered (passes q) zs) kept)
          ∙ ap (once like)
          (ap (map f) (filtered_map (passes q) (new_term d) ts ∙ λ i. map (new_term d) (filtered (λ t. q (new_kind d k t i)) ts))
          ∙ map-map f (new_term d) (filtered (passes q) ts)
          ∙ map_same (λ t. f (new_term d t)) g (filtered (passes q) ts) old
          ∙ ap (map g) (filtered_map (passes q) (term_in d) (categories_first d r.forms) ∙ ap (map (term_in d)) split ∙ sym (filtered_map (passes q) (term_in d) r.forms)))
        where
          draft_term : {t : Bytes} → Memᴰ t (map (term_in d) (categories_first d r.forms)) → Memᴰ t d.terms
          draft_term n =
              let p = Memᴰ.of_map (term_in d) (categories_first d r.forms) n in
              Memᴰ.cast (sym p.2) (form_term_lem d k m (of_first d k r.forms p.1))

          old : (t : Bytes) → Memᴰ t (filtered (passes q) (map (term_in d) (categories_first d r.forms))) → f (new_term d t) ≡ g t
          old t n = let p = of_filtered (passes q) (map (term_in d) (categories_first d r.forms)) n in told t (draft_term p.0) p.1

          new : {z : Bytes} → Memᴰ z (filtered (passes q) (map (new_term d) (map (term_in d) (categories_first d r.forms)))) → Memᴰ z (assembled d).terms × (passes q z ≡ true)
          new n =
              let p = of_filtered (passes q) (map (new_term d) (map (term_in d) (categories_first d r.forms))) n in
              let o = Memᴰ.of_map (new_term d) (map (term_in d) (categories_first d r.forms)) p.0 in
              (Memᴰ.cast (sym o.2) (new_term_mem d k (draft_term o.1)), p.1)

          kept : (z w : Bytes) → Memᴰ z (filtered (passes q) (map (new_term d) (map (term_in d) (categories_first d r.forms)))) → Memᴰ w (filtered (passes q) (map (new_term d) (map (term_in d) (categories_first d r.forms)))) → like (f z) (f w) ≡ same z w
          kept z w i j = let a = new i in let b = new j in test_kept same_decides s f z w (one z w a.0 b.0 a.1 b.1)

  module _ {r : PageRow} (m : Memᴰ r d.pages) where
    categories_kept : categories_in (assembled d) (map (term_in (assembled d)) (new_forms d r.forms)) ≡ once same (categories_in d (map (term_in d) r.forms))
    categories_kept =
        categories_filtered (assembled d) (map (term_in (assembled d)) (new_forms d r.forms))
        ∙ forms_told m same_decides (λ b. b) (category_of (assembled d)) (category_of d) (λ t n e. category_kept d k n e)
        (λ z w i j a b e. sym (category_back (assembled d) (assembled_canon d k) (properties_once_lem d k) (assembled_shaped d k) i a) ∙ ap (category_term (decode (assembled d))) e ∙ category_back (assembled d) (assembled_canon d k) (properties_once_lem d k) (assembled_shaped d k) j b)
        (split_passes (λ f. is_category (term_in d f)) r.forms)
        ∙ ap (once same) (sym (categories_filtered d (map (term_in d) r.forms)))

    values_kept : values_in (assembled d) (map (term_in (assembled d)) (new_forms d r.forms)) ≡ once same_held (values_in d (map (term_in d) r.forms))
    values_kept =
        values_filtered (assembled d) (map (term_in (assembled d)) (new_forms d r.forms))
        ∙ forms_told m same_held_decides not (held_of (assembled d)) (held_of d) (λ t n e. held_kept d k n (not-true (is_category t) e))
        (λ z w i j a b e. sym (value_back (assembled d) (assembled_canon d k) (properties_once_lem d k) (assembled_shaped d k) i (not-true (is_category z) a)) ∙ ap (value_term (decode (assembled d))) e ∙ value_back (assembled d) (assembled_canon d k) (properties_once_lem d k) (assembled_shaped d k) j (not-true (is_category w) b))
        (split_fails (λ f. is_category (term_in d f)) r.forms)
        ∙ ap (once same_held) (sym (values_filtered d (map (term_in d) r.forms)))

    page_kept : decode_page (assembled d) (new_page d r) ≡ page_once (decode_page d r)
    unfolding decode_page
    page_kept = λ i. record { identifier = identifier_of (new_text d k r.identifier (identifier_small d k m) i); categories = categories_kept i; values = values_kept i }

  -- What the writer makes describes what the draft does.
  pub assembled_describes : decode (assembled d) ≡ drafted d
  unfolding decode assembled drafted
  assembled_describes =
      let pages : map (decode_page (assembled d)) (map (new_page d) d.pages) ≡ map page_once (map (decode_page d) d.pages) =
      map-map (decode_page (assembled d)) (new_page d) d.pages
      ∙ map_same (λ r. decode_page (assembled d) (new_page d r)) (λ r. page_once (decode_page d r)) d.pages (λ r m. page_kept m)
      ∙ sym (map-map page_once (decode_page d) d.pages) in
      λ i. record { properties = properties_kept d k i; pages = pages i }

  pub assembled_is : assembled d ≡ encode (drafted d)
  assembled_is = sym (encoded (assembled d) (assembled_canon d k) (properties_once_lem d k) (assembled_shaped d k)) ∙ ap encode assembled_describes
