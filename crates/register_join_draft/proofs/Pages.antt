-- The pages of a draft of a join are those of the join.
use Rattle.std.specs.Prelude.{Option, Some, None}
use Rattle.language.proofs.Rules.{RuledPage, page_rules}
use Prim.Native.Nat.{ℕ, zero, suc, ◌+◌, ◌<◌}
use mathlib.Core.Path.{◌≡◌, refl, sym, ap, ap₂, ◌∙◌, subst}
use mathlib.Core.Bool.{Bool, true, false, cond, not}
use mathlib.Core.List.Memᴰ
use mathlib.Core.List.{List, [], ◌∷◌, ◌++◌, map, map-map, map-append, append-nil, Memᴰ}
use lib.Dec.{eqb}
use lib.ListN.{length, get_or, length-map, get_or-append}
use lib.Seq.{get_or-append-add}
use borrow.Author.Tests.{not-true, eq-eqb}
use Rattle.text.specs.Bytes.{Bytes, same, any}
use Rattle.values.specs.Names.{same_identifier}
use Rattle.language.specs.Answer.{found}
use Rattle.language.specs.Register.{Held, Page, distinct, same_page}
use Rattle.language.specs.RegisterText.{same_held}
use Rattle.language.specs.Rules.{is_page}
use Rattle.language.specs.Joining.{only_in, like_in, join_page, joined_with, join}
use Rattle.language.proofs.Members.{and_true, all_at, any_at, any_same, map_same, get_d_mapped}
use Rattle.language.proofs.Sameness.{same_likeness, same_held_likeness}
use Rattle.register_form.specs.Dictionary.{PageRow, Dictionary, identifier_of, is_category, text_in, term_in, category_of, held_of, categories_in, values_in, decode_page, decode}
use Rattle.register_form.specs.Opened.{next}
use Rattle.register_form.specs.Draft.{once, page_once}
use Rattle.register_form.proofs.Described.{form_below, page_term_mem}
use Rattle.register_join_draft.specs.Joined.{name_in, place_in, forms_in, key_of, keys_of, moved_term, join_names, second_forms, row_both, row_second, join_pages, join_terms, join_draft}
use Rattle.register_join_draft.proofs.Once.{once_append, once_distinct, any_map, map_only}
use Rattle.register_join_draft.proofs.Sheets.{Sheet, page_from, moved_terms, second_terms, sheet_both, sheet_second, forms_row}
use Rattle.register_join_draft.proofs.Texts.{eqb_likeness, same_identifier_lem, key_below, identifier_told, keys_distinct}
use Rattle.register_join_draft.proofs.Moved.{Source, categories_told, values_told}
use Rattle.register_join_draft.proofs.Rows.{Proper, Joint, items, source1, source2}

-- Categories and values among terms one behind the other.
module _ (D : Dictionary) where
  categories_append : (l m : List Bytes) → categories_in D (l ++ m) ≡ categories_in D l ++ categories_in D m
  unfolding categories_in
  categories_append [] m = refl
  categories_append (t ∷ l) m = go (is_category t) (categories_append l m)
    where
      go : (b : Bool) → categories_in D (l ++ m) ≡ categories_in D l ++ categories_in D m → cond b (category_of D t ∷ categories_in D (l ++ m)) (categories_in D (l ++ m)) ≡ cond b (category_of D t ∷ categories_in D l) (categories_in D l) ++ categories_in D m
      go true e = ap (λ (r : List Bytes). category_of D t ∷ r) e
      go false e = e

  values_append : (l m : List Bytes) → values_in D (l ++ m) ≡ values_in D l ++ values_in D m
  unfolding values_in
  values_append [] m = refl
  values_append (t ∷ l) m = go (is_category t) (values_append l m)
    where
      go : (b : Bool) → values_in D (l ++ m) ≡ values_in D l ++ values_in D m → cond b (values_in D (l ++ m)) (held_of D t ∷ values_in D (l ++ m)) ≡ cond b (values_in D l) (held_of D t ∷ values_in D l) ++ values_in D m
      go true e = e
      go false e = ap (λ (r : List Held). held_of D t ∷ r) e

-- Forms of pages by their places.
pub forms_behind : (r : PageRow) (m : List PageRow) (n : ℕ) → forms_in m n ≡ forms_in (r ∷ m) (next n)
forms_behind r m zero = refl
forms_behind r m (suc n) = refl

module _ (e : Dictionary) (item : ℕ → ℕ) where
  -- The page like p and the forms in the place of its key: both are of one row, or there is none.
  like_forms : (p : Page) (x : ℕ) (P : Option Page → List ℕ → Type 0) (m : List PageRow) → ((r : PageRow) → Memᴰ r m → same_page p (decode_page e r) ≡ eqb (key_of e item r) x) → P None [] → ((r : PageRow) → Memᴰ r m → P (Some (decode_page e r)) r.forms) → P (like_in same_page p (map (decode_page e) m)) (forms_in m (place_in (map (key_of e item) m) x))
  unfolding like_in place_in
  like_forms p x P [] h a b = a
  like_forms p x P (r ∷ m) h a b =
      rw (h r (Memᴰ.head refl))
      (go (eqb (key_of e item r) x) (like_forms p x P m (λ s n. h s (Memᴰ.tail n)) a (λ s n. b s (Memᴰ.tail n))))
    where
      go : (c : Bool) → P (like_in same_page p (map (decode_page e) m)) (forms_in m (place_in (map (key_of e item) m) x)) → P (cond c (Some (decode_page e r)) (like_in same_page p (map (decode_page e) m))) (forms_in (r ∷ m) (cond c 1 (next (place_in (map (key_of e item) m) x))))
      go true i = b r (Memᴰ.head refl)
      go false i = subst (P (like_in same_page p (map (decode_page e) m))) (forms_behind r m (place_in (map (key_of e item) m) x)) i

  forms_at_lem : (l : List PageRow) → distinct eqb (map (key_of e item) l) ≡ true → {r : PageRow} → Memᴰ r l → forms_in l (place_in (map (key_of e item) l) (key_of e item r)) ≡ r.forms
  unfolding distinct place_in
  forms_at_lem [] h {r = r} x' = elim x' [ ]
  forms_at_lem (x ∷ l) h {r} (Memᴰ.head f) = rw (eq-eqb (key_of e item x) (key_of e item r) (ap (key_of e item) (sym f))) (ap (λ (s : PageRow). s.forms) (sym f))
  forms_at_lem (x ∷ l) h {r} (Memᴰ.tail m) =
      let t = and_true (not (any (eqb (key_of e item x)) (map (key_of e item) l))) (distinct eqb (map (key_of e item) l)) h in
      rw (any_at (eqb (key_of e item x)) (not-true _ t.0) (Memᴰ.map (key_of e item) m))
      (sym (forms_behind x l (place_in (map (key_of e item) l) (key_of e item r))) ∙ forms_at_lem l t.1 m)

-- What a page of a dictionary tells in a draft.
module _ (d D : Dictionary) (item : ℕ → ℕ) (s : Source d D item) {r : PageRow} (m : Memᴰ r d.pages) where
  page_categories : categories_in D (moved_terms d item (map name_in D.properties) r.forms) ≡ (decode_page d r).categories
  unfolding moved_terms decode_page
  page_categories =
      ap (categories_in D) (sym (map-map (moved_term d item (map name_in D.properties)) (term_in d) r.forms))
      ∙ categories_told d D item s (map (term_in d) r.forms) (λ t n. page_term_mem d s.canon m n)

  page_values : values_in D (moved_terms d item (map name_in D.properties) r.forms) ≡ (decode_page d r).values
  unfolding moved_terms decode_page
  page_values =
      ap (values_in D) (sym (map-map (moved_term d item (map name_in D.properties)) (term_in d) r.forms))
      ∙ values_told d D item s (map (term_in d) r.forms) (λ t n. page_term_mem d s.canon m n)

page_kept : (d : Dictionary) → Proper d → {r : PageRow} → Memᴰ r d.pages → RuledPage (decode_page d r)
unfolding decode
page_kept d p {r} m = page_rules (decode_page d r) (all_at is_page p.keeps.pages (Memᴰ.map (decode_page d) m))

module _ (d e : Dictionary) (item1 item2 : ℕ → ℕ) (texts : List Bytes) (j : Joint d e item1 item2 texts) where
  abbrev D : Dictionary
  D = join_draft d e item1 item2 texts

  s1 : Source d D item1
  s1 = source1 d e item1 item2 texts j

  s2 : Source e D item2
  s2 = source2 d e item1 item2 texts j

  pub names_are : map name_in D.properties ≡ join_names d e item1 item2
  unfolding join_names join_draft
  names_are = refl

  same_key : (x y : ℕ) → x < length D.texts → y < length D.texts → same_identifier (identifier_of (text_in D x)) (identifier_of (text_in D y)) ≡ eqb x y
  same_key = same_identifier_lem d e D item1 item2 j.first.canon j.second.canon (items d e item1 item2 texts j)

  -- Keys of the second are there once.
  keys_once : distinct eqb (map (key_of e item2) e.pages) ≡ true
  unfolding keys_of
  keys_once = keys_distinct d e D item1 item2 j.first.canon j.second.canon (items d e item1 item2 texts j) e item2 s2.items s2.canon j.second.keeps.pages_once

  pub second_forms_lem : {r : PageRow} → Memᴰ r e.pages → forms_in e.pages (place_in (keys_of e item2) (key_of e item2 r)) ≡ r.forms
  unfolding keys_of
  second_forms_lem m = forms_at_lem e item2 e.pages keys_once m

  second_terms_lem : {r : PageRow} → Memᴰ r e.pages → second_terms d e item1 item2 (key_of e item2 r) ≡ moved_terms e item2 (join_names d e item1 item2) r.forms
  unfolding second_terms
  second_terms_lem m = ap (moved_terms e item2 (join_names d e item1 item2)) (second_forms_lem m)

  categories1 : {r : PageRow} → Memᴰ r d.pages → categories_in D (moved_terms d item1 (join_names d e item1 item2) r.forms) ≡ (decode_page d r).categories
  categories1 {r} m = ap (λ (l : List ℕ). categories_in D (moved_terms d item1 l r.forms)) (sym names_are) ∙ page_categories d D item1 s1 m

  values1 : {r : PageRow} → Memᴰ r d.pages → values_in D (moved_terms d item1 (join_names d e item1 item2) r.forms) ≡ (decode_page d r).values
  values1 {r} m = ap (λ (l : List ℕ). values_in D (moved_terms d item1 l r.forms)) (sym names_are) ∙ page_values d D item1 s1 m

  categories2 : {r : PageRow} → Memᴰ r e.pages → categories_in D (moved_terms e item2 (join_names d e item1 item2) r.forms) ≡ (decode_page e r).categories
  categories2 {r} m = ap (λ (l : List ℕ). categories_in D (moved_terms e item2 l r.forms)) (sym names_are) ∙ page_categories e D item2 s2 m

  values2 : {r : PageRow} → Memᴰ r e.pages → values_in D (moved_terms e item2 (join_names d e item1 item2) r.forms) ≡ (decode_page e r).values
  values2 {r} m = ap (λ (l : List ℕ). values_in D (moved_terms e item2 l r.forms)) (sym names_are) ∙ page_values e D item2 s2 m

  -- A page of the first, with the forms that the second has of it.
  module _ {r : PageRow} (m : Memᴰ r d.pages) where
    abbrev own : List Bytes
    own = moved_terms d item1 (join_names d e item1 item2) r.forms

    Told : Option Page → List ℕ → Type 0
    Told o forms =
        page_once (page_from D (record { identifier = key_of d item1 r; terms = own ++ moved_terms e item2 (join_names d e item1 item2) forms }))
        ≡ found o (join_page (decode_page d r)) (decode_page d r)

    told_none : Told None []
    unfolding Told moved_terms
    told_none =
        let k = page_kept d j.first m in
        λ i.
        record {
          identifier = identifier_told d D item1 s1.items s1.canon m i;
          categories = (ap (λ (l : List Bytes). once same (categories_in D l)) (append-nil own) ∙ ap (once same) (categories1 m) ∙ once_distinct same_likeness (decode_page d r).categories k.categories_once) i;
          values = (ap (λ (l : List Bytes). once same_held (values_in D l)) (append-nil own) ∙ ap (once same_held) (values1 m) ∙ once_distinct same_held_likeness (decode_page d r).values k.values_once) i;
        }

    told_some : (q : PageRow) → Memᴰ q e.pages → Told (Some (decode_page e q)) q.forms
    unfolding Told
    told_some q n =
        let k = page_kept d j.first m in
        let l = page_kept e j.second n in
        let more = moved_terms e item2 (join_names d e item1 item2) q.forms in
        λ i.
        record {
          identifier = identifier_told d D item1 s1.items s1.canon m i;
          categories = (ap (once same) (categories_append D own more ∙ ap₂ ◌++◌ (categories1 m) (categories2 n)) ∙ once_append same_likeness (decode_page d r).categories (decode_page e q).categories k.categories_once l.categories_once) i;
          values = (ap (once same_held) (values_append D own more ∙ ap₂ ◌++◌ (values1 m) (values2 n)) ∙ once_append same_held_likeness (decode_page d r).values (decode_page e q).values k.values_once l.values_once) i;
        }

    alike_second : (q : PageRow) → Memᴰ q e.pages → same_page (decode_page d r) (decode_page e q) ≡ eqb (key_of e item2 q) (key_of d item1 r)
    alike_second q n =
        sym (ap₂ same_identifier (identifier_told d D item1 s1.items s1.canon m) (identifier_told e D item2 s2.items s2.canon n))
        ∙ same_key (key_of d item1 r) (key_of e item2 q) (key_below d D item1 s1.items s1.canon m) (key_below e D item2 s2.items s2.canon n)
        ∙ eqb_likeness.turned (key_of d item1 r) (key_of e item2 q)

    both_told : page_once (page_from D (sheet_both d e item1 item2 r)) ≡ joined_with (decode e).pages (decode_page d r)
    unfolding Told joined_with second_terms keys_of decode
    both_told = like_forms e item2 (decode_page d r) (key_of d item1 r) Told e.pages alike_second told_none told_some

  -- A page of the second.
  second_told : {r : PageRow} → Memᴰ r e.pages → page_once (page_from D (sheet_second d e item1 item2 (key_of e item2 r))) ≡ decode_page e r
  second_told {r} m =
      let k = page_kept e j.second m in
      λ i.
      record {
        identifier = identifier_told e D item2 s2.items s2.canon m i;
        categories = (ap (λ (l : List Bytes). once same (categories_in D l)) (second_terms_lem m) ∙ ap (once same) (categories2 m) ∙ once_distinct same_likeness (decode_page e r).categories k.categories_once) i;
        values = (ap (λ (l : List Bytes). once same_held (values_in D l)) (second_terms_lem m) ∙ ap (once same_held) (values2 m) ∙ once_distinct same_held_likeness (decode_page e r).values k.values_once) i;
      }

  abbrev sheet_page : Sheet → Page
  sheet_page s = page_once (page_from D s)

  abbrev second_page : ℕ → Page
  second_page x = sheet_page (sheet_second d e item1 item2 x)

  first_pages : map (λ r. sheet_page (sheet_both d e item1 item2 r)) d.pages ≡ map (joined_with (decode e).pages) (decode d).pages
  unfolding decode
  first_pages =
      map_same (λ r. sheet_page (sheet_both d e item1 item2 r)) (λ r. joined_with (decode e).pages (decode_page d r)) d.pages (λ r m. both_told m)
      ∙ sym (map-map (joined_with (decode e).pages) (decode_page d) d.pages)

  only_pages : map second_page (only_in eqb (keys_of d item1) (keys_of e item2)) ≡ only_in same_page (decode d).pages (decode e).pages
  unfolding keys_of decode
  only_pages =
      map_only second_page eqb same_page (keys_of d item1) (keys_of e item2) (decode d).pages beside
      ∙ ap (only_in same_page (decode d).pages) (map-map second_page (key_of e item2) e.pages ∙ map_same (λ r. second_page (key_of e item2 r)) (decode_page e) e.pages (λ r m. second_told m))
    where
      alike : (x : ℕ) → x < length D.texts → (r : PageRow) → Memᴰ r d.pages → same_page (second_page x) (decode_page d r) ≡ eqb x (key_of d item1 r)
      alike x b r m = ap (same_identifier (identifier_of (text_in D x))) (sym (identifier_told d D item1 s1.items s1.canon m)) ∙ same_key x (key_of d item1 r) b (key_below d D item1 s1.items s1.canon m)

      beside : (x : ℕ) → Memᴰ x (keys_of e item2) → any (same_page (second_page x)) (decode d).pages ≡ any (eqb x) (keys_of d item1)
      beside x m =
          let q = Memᴰ.of_map (key_of e item2) e.pages m in
          let b : x < length D.texts = subst (λ (y : ℕ). y < length D.texts) q.2 (key_below e D item2 s2.items s2.canon q.1) in
          any_map (decode_page d) (same_page (second_page x)) d.pages
          ∙ any_same (λ r. same_page (second_page x) (decode_page d r)) (λ r. eqb x (key_of d item1 r)) d.pages (alike x b)
          ∙ sym (any_map (key_of d item1) (eqb x) d.pages)

  -- The terms that forms of D are.
  abbrev moved1 : Bytes → Bytes
  moved1 = moved_term d item1 (join_names d e item1 item2)

  abbrev moved2 : Bytes → Bytes
  moved2 = moved_term e item2 (join_names d e item1 item2)

  forms1 : (l : List ℕ) → ((f : ℕ) → Memᴰ f l → f < length d.terms) → map (term_in D) l ≡ moved_terms d item1 (join_names d e item1 item2) l
  unfolding join_draft join_terms moved_terms
  forms1 l h =
      map_same (term_in D) (λ f. moved1 (term_in d f)) l
      (λ f m. get_or-append (map moved1 d.terms) (map moved2 e.terms) [] f (rw length-map (h f m)) ∙ get_d_mapped moved1 d.terms f [] [] (h f m))

  forms2 : (x : ℕ) → map (term_in D) (second_forms d e item1 item2 x) ≡ second_terms d e item1 item2 x
  unfolding join_draft join_terms moved_terms second_forms second_terms
  forms2 x =
      let l = forms_in e.pages (place_in (keys_of e item2) x) in
      map-map (term_in D) (λ f. length d.terms + f) l
      ∙ map_same (λ f. term_in D (length d.terms + f)) (λ f. moved2 (term_in e f)) l
      (λ f m.
      let r = forms_row e.pages (place_in (keys_of e item2) x) m in
      ap (λ (n : ℕ). get_or (map moved1 d.terms ++ map moved2 e.terms) (n + f) []) (sym (length-map d.terms moved1))
      ∙ get_or-append-add (map moved1 d.terms) (map moved2 e.terms) f []
      ∙ get_d_mapped moved2 e.terms f [] [] (form_below e j.second.canon r.1 r.2))

  page_described : (x : ℕ) (l : List ℕ) (k : List Bytes) → map (term_in D) l ≡ k → decode_page D (record { identifier = x; forms = l }) ≡ page_from D (record { identifier = x; terms = k })
  unfolding decode_page
  page_described x l k h = λ i. record { identifier = identifier_of (text_in D x); categories = categories_in D (h i); values = values_in D (h i) }

  described1 : (r : PageRow) → Memᴰ r d.pages → page_once (decode_page D (row_both d e item1 item2 r)) ≡ sheet_page (sheet_both d e item1 item2 r)
  described1 r m =
      let x = key_of d item1 r in
      ap page_once (page_described x (r.forms ++ second_forms d e item1 item2 x) (sheet_both d e item1 item2 r).terms
      (map-append (term_in D) r.forms (second_forms d e item1 item2 x) ∙ ap₂ ◌++◌ (forms1 r.forms (λ f n. form_below d j.first.canon m n)) (forms2 x)))

  described2 : (x : ℕ) → page_once (decode_page D (row_second d e item1 item2 x)) ≡ second_page x
  described2 x = ap page_once (page_described x (second_forms d e item1 item2 x) (second_terms d e item1 item2 x) (forms2 x))

  abbrev only : List ℕ
  only = only_in eqb (keys_of d item1) (keys_of e item2)

  abbrev told : PageRow → Page
  told r = page_once (decode_page D r)

  pages_told : map page_once (decode D).pages ≡ map told (map (row_both d e item1 item2) d.pages ++ map (row_second d e item1 item2) only)
  unfolding decode join_draft join_pages
  pages_told = map-map page_once (decode_page D) (map (row_both d e item1 item2) d.pages ++ map (row_second d e item1 item2) only)

  pub join_pages_lem : map page_once (decode D).pages ≡ (join (decode d) (decode e)).pages
  unfolding join
  join_pages_lem =
      pages_told
      ∙ map-append told (map (row_both d e item1 item2) d.pages) (map (row_second d e item1 item2) only)
      ∙ ap₂ ◌++◌
      (map-map told (row_both d e item1 item2) d.pages ∙ map_same (λ r. told (row_both d e item1 item2 r)) (λ r. sheet_page (sheet_both d e item1 item2 r)) d.pages described1 ∙ first_pages)
      (map-map told (row_second d e item1 item2) only ∙ map_same (λ x. told (row_second d e item1 item2 x)) second_page only (λ x m. described2 x) ∙ only_pages)
