-- The pages and the forms of a draft, one entry after the other.
use Prim.Native.Nat.{ℕ, suc, ◌≤◌}
use mathlib.Core.Path.{◌≡◌, refl, sym, ap, ◌∙◌, subst}
use mathlib.Core.Bool.{Bool, true, false, cond}
use mathlib.Core.List.{List, [], ◌∷◌, ◌++◌, map, flat_map, append-nil, append_assoc, map-append, Memᴰ}
use native.Mathlib.Numerals.{add-one}
use lib.ListN.{length, length-append}
use Rattle.text.specs.Bytes.{Bytes, same, any}
use Rattle.text.specs.Table.{tabulate}
use Rattle.values.specs.Values.{Value, plain, string}
use Rattle.language.specs.Answer.{found}
use Rattle.language.specs.Register.{Property, Held, Page}
use Rattle.language.specs.RegisterText.{Entry, prop, page, cat, val, Place, line, inner, value_of, same_held, add_category, add_held, with_category, with_value as holding, empty_page, filled, pages_of}
use Rattle.language.proofs.Adding.{added as set_added, category_added, held_added}
use Rattle.register_form.specs.Dictionary.{PageRow, Dictionary, labelled, identifier_of, term_of, is_category, text_in, term_in, category_of, held_of, categories_in, values_in, decode_property, decode_page}
use Rattle.register_form.specs.Encoding.{place_among}
use Rattle.register_form.specs.Form.{forms_of}
use Rattle.register_form.specs.Draft.{once_behind, once, page_once}
use Rattle.register_form.proofs.Codes.{space_back, name_back}
use Rattle.buffer.proofs.Parts.{flat_append}
use Rattle.register_text_draft.specs.Drafting.{with_form, on_last, code_in, with_value, added, draft_from}
use Rattle.register_text_draft.proofs.Growing.{Front, front_at, Grows, grows_trans, grows_from}
use Rattle.register_text_draft.proofs.Entries.{Placed, done, a_prop, a_page, a_cat, a_val, a_close}
use Rattle.register_text_draft.specs.Sizes.{Valued, Good}
use Rattle.register_text_draft.proofs.Terms.{no_category, category_is, value_is}

-- One element more of a list of which each stays once.
once_more : {A : Type 0} (alike : A → A → Bool) (seen l : List A) (x : A) → once_behind alike seen (l ++ (x ∷ [])) ≡ set_added alike x (once_behind alike seen l)
unfolding once_behind set_added
once_more alike seen [] x = refl
once_more alike seen (y ∷ l) x = once_more alike (cond (any (alike y) seen) seen (seen ++ (y ∷ []))) l x

-- One form more on the last page.
pub on_last_lem : (f : ℕ) (l : List PageRow) (r : PageRow) → on_last f (l ++ (r ∷ [])) ≡ l ++ (with_form f r ∷ [])
unfolding on_last
on_last_lem f [] r = refl
on_last_lem f (q ∷ []) r = refl
on_last_lem f (q ∷ p ∷ l) r = ap (λ (z : List PageRow). q ∷ z) (on_last_lem f (p ∷ l) r)

forms_last : (f : ℕ) (l : List PageRow) (r : PageRow) → flat_map forms_of (l ++ (with_form f r ∷ [])) ≡ flat_map forms_of (l ++ (r ∷ [])) ++ (f ∷ [])
unfolding flat_map
forms_last f l r =
    rw (flat_append forms_of l (with_form f r ∷ []), flat_append forms_of l (r ∷ []), append-nil (r.forms ++ (f ∷ [])), append-nil r.forms)
    (sym (append_assoc (flat_map forms_of l) r.forms (f ∷ [])))

-- The numbers below one.
abbrev pub up_to : ℕ → List ℕ
up_to n = tabulate n (λ i. i)

module _ (D : Dictionary) where
  cond_append : {A : Type 0} (b : Bool) (a : A) (l m : List A) → cond b (a ∷ (l ++ m)) (l ++ m) ≡ cond b (a ∷ l) l ++ m
  cond_append true a l m = refl
  cond_append false a l m = refl

  cond_append_not : {A : Type 0} (b : Bool) (a : A) (l m : List A) → cond b (l ++ m) (a ∷ (l ++ m)) ≡ cond b l (a ∷ l) ++ m
  cond_append_not true a l m = refl
  cond_append_not false a l m = refl

  categories_append : (l m : List Bytes) → categories_in D (l ++ m) ≡ categories_in D l ++ categories_in D m
  unfolding categories_in
  categories_append [] m = refl
  categories_append (t ∷ l) m = rw (categories_append l m) (cond_append (is_category t) (category_of D t) (categories_in D l) (categories_in D m))

  values_append : (l m : List Bytes) → values_in D (l ++ m) ≡ values_in D l ++ values_in D m
  unfolding values_in
  values_append [] m = refl
  values_append (t ∷ l) m = rw (values_append l m) (cond_append_not (is_category t) (held_of D t) (values_in D l) (values_in D m))

  -- The page that a row describes, and those that rows describe.
  unfoldable pub page_in : PageRow → Page
  page_in r = page_once (decode_page D r)

  abbrev pub pages_in : List PageRow → List Page
  pages_in l = map page_in l

  empty_page_lem : (n x : Bytes) (i : ℕ) → text_in D i ≡ labelled n x → page_in (record { identifier = i; forms = [] }) ≡ empty_page n x
  unfolding page_in decode_page categories_in values_in once_behind
  empty_page_lem n x i e = rw (e, space_back n x, name_back n x)

  module _ (r : PageRow) (f : ℕ) where
    terms_more : map (term_in D) (r.forms ++ (f ∷ [])) ≡ map (term_in D) r.forms ++ (term_in D f ∷ [])
    terms_more = map-append (term_in D) r.forms (f ∷ [])

    with_category_lem : (x : Bytes) → is_category (term_in D f) ≡ true → category_of D (term_in D f) ≡ x → page_in (with_form f r) ≡ with_category x (page_in r)
    unfolding page_in decode_page categories_in values_in
    with_category_lem x c e =
        let l = map (term_in D) r.forms in
        let cs : once same (categories_in D (map (term_in D) (r.forms ++ (f ∷ [])))) ≡ add_category x (once same (categories_in D l)) =
        ap (λ (z : List Bytes). once same (categories_in D z)) terms_more
        ∙ ap (once same) (categories_append l (term_in D f ∷ []) ∙ rw (c, e))
        ∙ once_more same [] (categories_in D l) x
        ∙ sym (category_added x (once same (categories_in D l))) in
        let vs : once same_held (values_in D (map (term_in D) (r.forms ++ (f ∷ [])))) ≡ once same_held (values_in D l) =
        ap (λ (z : List Bytes). once same_held (values_in D z)) terms_more
        ∙ ap (once same_held) (values_append l (term_in D f ∷ []) ∙ rw (c, append-nil (values_in D l))) in
        λ i. record { identifier = identifier_of (text_in D r.identifier); categories = cs i; values = vs i }

    with_value_lem : (h : Held) → is_category (term_in D f) ≡ false → held_of D (term_in D f) ≡ h → page_in (with_form f r) ≡ holding h.property h.value (page_in r)
    unfolding page_in decode_page categories_in values_in
    with_value_lem h c e =
        let l = map (term_in D) r.forms in
        let cs : once same (categories_in D (map (term_in D) (r.forms ++ (f ∷ [])))) ≡ once same (categories_in D l) =
        ap (λ (z : List Bytes). once same (categories_in D z)) terms_more
        ∙ ap (once same) (categories_append l (term_in D f ∷ []) ∙ rw (c, append-nil (categories_in D l))) in
        let vs : once same_held (values_in D (map (term_in D) (r.forms ++ (f ∷ [])))) ≡ add_held h (once same_held (values_in D l)) =
        ap (λ (z : List Bytes). once same_held (values_in D z)) terms_more
        ∙ ap (once same_held) (values_append l (term_in D f ∷ []) ∙ rw (c, e))
        ∙ once_more same_held [] (values_in D l) h
        ∙ sym (held_added h (once same_held (values_in D l))) in
        λ i. record { identifier = identifier_of (text_in D r.identifier); categories = cs i; values = vs i }

  -- What the pages of a draft are at last, and that each term is on one.
  pub record Paged (l : List Page) (E : Dictionary) : Type 0 where
    pub pages : pages_in E.pages ≡ l
    pub forms : flat_map forms_of E.pages ≡ up_to (length E.terms)

  module _ (ps : List Property) (few : length D.texts ≤ 2368) (declared : map (decode_property D) D.properties ≡ ps) where
    -- Of the entries l from a place on, behind the draft d.
    abbrev Goes : Place → List Entry → Dictionary → Type 0
    Goes line l d = Paged (pages_in d.pages ++ pages_of ps l) (draft_from ps d l)
    Goes inner l d =
        (front : List PageRow) (r : PageRow) → d.pages ≡ front ++ (r ∷ [])
        → Paged (pages_in front ++ (filled ps (page_in r) l ∷ pages_of ps l)) (draft_from ps d l)

    -- a form on the last page
    module _ (d : Dictionary) (g : ℕ) (v : Value) (front : List PageRow) (r : PageRow) (e : d.pages ≡ front ++ (r ∷ [])) where
      form_pages : (with_value g v d).pages ≡ front ++ (with_form (length d.terms) r ∷ [])
      form_pages = ap (on_last (length d.terms)) e ∙ on_last_lem (length d.terms) front r

      form_forms : flat_map forms_of d.pages ≡ up_to (length d.terms) → flat_map forms_of (with_value g v d).pages ≡ up_to (length (with_value g v d).terms)
      unfolding tabulate
      form_forms h =
          ap (flat_map forms_of) form_pages
          ∙ forms_last (length d.terms) front r
          ∙ ap (λ (z : List ℕ). z ++ (length d.terms ∷ [])) (sym (ap (flat_map forms_of) e) ∙ h)
          ∙ sym (ap up_to (length-append d.terms (term_of g (code_in (length d.texts) v) ∷ []) ∙ add-one (length d.terms)))

      form_term_lem : Front (with_value g v d).terms D.terms → term_in D (length d.terms) ≡ term_of g (code_in (length d.texts) v)
      form_term_lem f = front_at d.terms [] (term_of g (code_in (length d.texts) v)) f

    pub pages_go : {p : Place} {l : List Entry} → Placed p l → (d : Dictionary) → Grows (draft_from ps d l) D → ((e : Entry) → Memᴰ e l → Good ps e)
        → flat_map forms_of d.pages ≡ up_to (length d.terms) → Goes p l d
    unfolding draft_from pages_of filled added flat_map
    pages_go done d g h k = record { pages = sym (append-nil (pages_in d.pages)); forms = k }
    pages_go (a_prop {x = x} {k = j} {l = l} m) d g h k = pages_go m (added ps d (prop x j)) g (λ e n. h e (Memᴰ.tail n)) k
    pages_go (a_page {n = n} {x = x} {l = l} m) d g h k =
        let b = added ps d (page n x) in
        let r : PageRow = record { identifier = length d.texts; forms = [] } in
        let text : text_in D (length d.texts) ≡ labelled n x = front_at d.texts [] (labelled n x) (grows_trans (grows_from ps b l) g).texts in
        let forms : flat_map forms_of (d.pages ++ (r ∷ [])) ≡ up_to (length d.terms) = flat_append forms_of d.pages (r ∷ []) ∙ append-nil (flat_map forms_of d.pages) ∙ k in
        rw (← empty_page_lem n x (length d.texts) text) (pages_go m b g (λ e n. h e (Memᴰ.tail n)) forms d.pages r refl)
    pages_go (a_cat {x = x} {l = l} m) d g h k = λ front r e.
        let b = added ps d (cat x) in
        let f = length d.terms in
        let at = grows_trans (grows_from ps b l) g in
        let term = form_term_lem d 0 (plain (string x)) front r e at.terms in
        let is : page_in (with_form f r) ≡ with_category x (page_in r) = with_category_lem r f x (ap is_category term) (ap (category_of D) term ∙ category_is D few d.texts x at.texts) in
        rw (← is) (pages_go m b g (λ e n. h e (Memᴰ.tail n)) (form_forms d 0 (plain (string x)) front r e k) front (with_form f r) (form_pages d 0 (plain (string x)) front r e))
    pages_go (a_val {x = x} {v = v} {l = l} m) d g h k = λ front r e.
        let q : Valued ps x v = h (val x v) (Memᴰ.head refl) in
        let w = q.value in
        let p = suc (place_among ps x) in
        let b = added ps d (val x v) in
        let f = length d.terms in
        let same : b ≡ with_value p w d = rw q.read in
        let at : Grows (with_value p w d) D = subst (λ (c : Dictionary). Grows c D) same (grows_trans (grows_from ps b l) g) in
        let term = form_term_lem d p w front r e at.terms in
        let is : page_in (with_form f r) ≡ holding x w (page_in r) =
        with_value_lem r f (record { property = x; value = w }) (ap is_category term ∙ no_category (place_among ps x) (code_in (length d.texts) w)) (ap (held_of D) term ∙ value_is D few ps declared d.texts x v q at.texts) in
        let forms : flat_map forms_of b.pages ≡ up_to (length b.terms) = subst (λ (c : Dictionary). flat_map forms_of c.pages ≡ up_to (length c.terms)) (sym same) (form_forms d p w front r e k) in
        let held : found (value_of ps x v) (λ w. holding x w (page_in r)) (page_in r) ≡ page_in (with_form f r) = rw q.read (sym is) in
        rw held (pages_go m b g (λ e n. h e (Memᴰ.tail n)) forms front (with_form f r) (ap (λ (c : Dictionary). c.pages) same ∙ form_pages d p w front r e))
    pages_go (a_close {l = l} m) d g h k = λ front r e.
        let both : pages_in d.pages ++ pages_of ps l ≡ pages_in front ++ (page_in r ∷ pages_of ps l) =
        ap (λ (z : List PageRow). pages_in z ++ pages_of ps l) e
        ∙ ap (λ (z : List Page). z ++ pages_of ps l) (map-append page_in front (r ∷ []))
        ∙ append_assoc (pages_in front) (page_in r ∷ []) (pages_of ps l) in
        rw (← both) (pages_go m d g (λ e n. h e (Memᴰ.tail n)) k)
