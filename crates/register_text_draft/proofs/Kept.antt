-- The draft of the entries of an accepted text: it keeps what a draft must, and describes the register that the text gives.
use Rattle.std.specs.Prelude.{Option, Some, None}
use Prim.Native.Nat.{ℕ, zero, suc, ◌≤◌, ◌<◌}
use mathlib.Core.Path.{◌≡◌, refl, sym, ap, ◌∙◌, subst}
use mathlib.Core.Bool.{Bool, true}
use mathlib.Core.Logic.{◌⊎◌, inl, inr, ⊎_elim}
use mathlib.Core.List.Memᴰ
use mathlib.Core.List.{List, [], ◌∷◌, ◌++◌, map, flat_map, append-nil, append_assoc, map-append, map-map, Memᴰ}
use native.Mathlib.Omega.{arith}
use lib.Dec.{ltb}
use lib.ListN.{length, length-append}
use borrow.Author.Tests.{lt-ltb, ltb-true, ltb-false}
use Rattle.text.specs.Bytes.{Bytes, all}
use Rattle.text.specs.Table.{tabulate}
use Rattle.text.proofs.Laws.{all_append}
use Rattle.text.proofs.Tables.{length_tabulate, get_d_tabulate}
use Rattle.values.specs.Values.{scalar, string, Value, plain, link}
use Rattle.language.specs.Answer.{found}
use Rattle.language.specs.Register.{Property}
use Rattle.language.specs.RegisterText.{Entry, prop, page, cat, val, close, properties, value_of, pages_of, register_of}
use Rattle.language.proofs.Members.{both_true, by_test}
use Rattle.language.proofs.Registers.{entries_sound, Passed}
use Rattle.register_form.specs.Dictionary.{PropertyRow, PageRow, Dictionary, labelled, term_of, group_of, term_code, text_in, term_in, decode_property, decode_page, decode}
use Rattle.register_form.specs.Encoding.{plain_text, identifier_text, value_texts, place_among}
use Rattle.register_form.specs.Tests.{is_labelled, is_plain_number, is_term, term_texts, text_uses, every_used}
use Rattle.register_form.specs.Draft.{page_once, drafted, Draft}
use Rattle.register_form.proofs.Codes.{name_back, labelled_is}
use Rattle.register_form.proofs.Lists.{mem_at, mem_used}
use Rattle.buffer.proofs.Parts.{flat_append}
use Rattle.register_text_draft.specs.Drafting.{no_draft, on_last, code_in, with_value, added, draft_from, draft_of}
use Rattle.register_text_draft.proofs.Growing.{front_there, front_at, Grows, grows_self, grows_trans, grows_from, kept}
use Rattle.register_text_draft.proofs.Entries.{passed_placed, passed_good}
use Rattle.register_text_draft.specs.Sizes.{Fits, Good}
use Rattle.register_text_draft.proofs.Bounds.{passed_fits}
use Rattle.register_text_draft.proofs.Terms.{Told, plain_number, category_told_lem, value_term_told}
use Rattle.register_text_draft.proofs.Pages.{up_to, page_in, Paged, pages_go}

-- The properties that a draft describes.
module _ (ps : List Property) (D : Dictionary) where
  declared_from : (l : List Entry) (d : Dictionary) → Grows (draft_from ps d l) D
      → map (decode_property D) (draft_from ps d l).properties ≡ map (decode_property D) d.properties ++ properties l
  unfolding draft_from properties added decode_property
  declared_from [] d g = sym (append-nil (map (decode_property D) d.properties))
  declared_from (prop x k ∷ l) d g =
      let c = added ps d (prop x k) in
      let name : text_in D (length d.texts) ≡ plain_text x = front_at d.texts [] (plain_text x) (grows_trans (grows_from ps c l) g).texts in
      declared_from l c g
      ∙ ap (λ (z : List Property). z ++ properties l) (map-append (decode_property D) d.properties (record { kind = k; name = length d.texts } ∷ []))
      ∙ append_assoc (map (decode_property D) d.properties) _ (properties l)
      ∙ rw (name, name_back [] x)
  declared_from (page n x ∷ l) d g = declared_from l (added ps d (page n x)) g
  declared_from (cat x ∷ l) d g = declared_from l (added ps d (cat x)) g
  declared_from (val x v ∷ l) d g = declared_from l (added ps d (val x v)) g ∙ ap (λ (z : List PropertyRow). map (decode_property D) z ++ properties l) (same_rows (value_of ps x v))
    where
      same_rows : (o : Option Value) → (found o (λ w. with_value (suc (place_among ps x)) w d) d).properties ≡ d.properties
      same_rows None = refl
      same_rows (Some w) = refl
  declared_from (close ∷ l) d g = declared_from l d g

-- What an entry adds keeps what a draft must, in the draft D that it is in at last.
map_last : (f : ℕ) (l : List PageRow) → map (λ r. r.identifier) (on_last f l) ≡ map (λ r. r.identifier) l
unfolding on_last
map_last f [] = refl
map_last f (r ∷ []) = refl
map_last f (r ∷ q ∷ l) = ap (λ (z : List ℕ). r.identifier ∷ z) (map_last f (q ∷ l))

all_more : {A : Type 0} (p : A → Bool) (l m : List A) → all p l ≡ true → all p m ≡ true → all p (l ++ m) ≡ true
all_more p l m h k = all_append p l m ∙ both_true h k

all_one : {A : Type 0} (p : A → Bool) (a : A) → p a ≡ true → all p (a ∷ []) ≡ true
unfolding all
all_one p a h = both_true h refl

all_mapped : {A B : Type 0} (p : B → Bool) (f : A → B) (l : List A) → all p (map f l) ≡ all (λ a. p (f a)) l
unfolding all
all_mapped p f [] = refl
all_mapped p f (a ∷ l) = rw (all_mapped p f l)

mem_more : {A : Type 0} (P : A → Type 0) (l : List A) (b : A) → ((a : A) → Memᴰ a l → P a) → P b → (a : A) → Memᴰ a (l ++ (b ∷ [])) → P a
mem_more P l b h k a m = ⊎_elim (h a) (λ (n : Memᴰ a (b ∷ [])). subst P (sym (Memᴰ.eq_of_singleton n)) k) (Memᴰ.append_cases l m)

labels_value : (v : Value) → all is_labelled (value_texts v) ≡ true
unfolding value_texts all
labels_value (plain (scalar k c)) = refl
labels_value (plain (string x)) = all_one is_labelled (plain_text x) (labelled_is [] x)
labels_value (link i) = all_one is_labelled (identifier_text i) (labelled_is i.namespace i.article)

abbrev name_of_row : PropertyRow → ℕ
name_of_row p = p.name

abbrev identifier_of_row : PageRow → ℕ
identifier_of_row r = r.identifier

module _ (D : Dictionary) where
  -- The number of a text is one that a property, a page or a term has.
  data Used (c : Dictionary) (i : ℕ) : Type 0 where
    by_property : Memᴰ i (map name_of_row c.properties) → Used c i
    by_page : Memᴰ i (map identifier_of_row c.pages) → Used c i
    by_term : Memᴰ i (flat_map (term_texts D) c.terms) → Used c i

  used_mem : {i : ℕ} → Used D i → Memᴰ i (text_uses D)
  unfolding text_uses
  used_mem (by_property m) = Memᴰ.append_left _ m
  used_mem (by_page m) = Memᴰ.append_right (map name_of_row D.properties) (Memᴰ.append_left _ m)
  used_mem (by_term m) = Memᴰ.append_right (map name_of_row D.properties) (Memᴰ.append_right (map identifier_of_row D.pages) m)

  -- Rows more, which leave the uses that were there.
  module _ (b c : Dictionary) (p g n : List ℕ)
      (properties : map name_of_row c.properties ≡ map name_of_row b.properties ++ p)
      (pages : map identifier_of_row c.pages ≡ map identifier_of_row b.pages ++ g)
      (terms : flat_map (term_texts D) c.terms ≡ flat_map (term_texts D) b.terms ++ n)
    where
      used_more : {i : ℕ} → Used b i → Used c i
      used_more (by_property m) = by_property (rw properties (Memᴰ.append_left p m))
      used_more (by_page m) = by_page (rw pages (Memᴰ.append_left g m))
      used_more (by_term m) = by_term (rw terms (Memᴰ.append_left n m))

      used_all : (l : List Bytes) → c.texts ≡ b.texts ++ l → ((i : ℕ) → i < length b.texts → Used b i)
          → ((i : ℕ) → length b.texts ≤ i → i < length (b.texts ++ l) → Memᴰ i p ⊎ Memᴰ i g ⊎ Memᴰ i n) → (i : ℕ) → i < length c.texts → Used c i
      used_all l e h new i k =
          by_test (ltb i (length b.texts))
          (λ t. used_more (h i (ltb-true i (length b.texts) t)))
          (λ t. by_new (new i (ltb-false i (length b.texts) t) (rw (← e) k)))
        where
          by_new : {i : ℕ} → Memᴰ i p ⊎ Memᴰ i g ⊎ Memᴰ i n → Used c i
          by_new (inl m) = by_property (rw properties (Memᴰ.append_right (map name_of_row b.properties) m))
          by_new (inr (inl m)) = by_page (rw pages (Memᴰ.append_right (map identifier_of_row b.pages) m))
          by_new (inr (inr m)) = by_term (rw terms (Memᴰ.append_right (flat_map (term_texts D) b.terms) m))

  record Keeps (c : Dictionary) : Type 0 where
    labels : all is_labelled c.texts ≡ true
    names : all (λ p. is_plain_number D p.name) c.properties ≡ true
    identifiers : all (λ i. ltb i (length D.texts)) (map identifier_of_row c.pages) ≡ true
    terms : all (is_term D) c.terms ≡ true
    uses : (i : ℕ) → i < length c.texts → Used c i
    shaped : (t : Bytes) → Memᴰ t c.terms → term_of (group_of t) (term_code t) ≡ t

  keeps_none : Keeps no_draft
  unfolding all
  keeps_none =
      record {
        labels = refl;
        names = refl;
        identifiers = refl;
        terms = refl;
        uses = λ i b. absurd (omega arith);
        shaped = λ t m. absurd (Memᴰ.not-nil m);
      }

  module _ (c : Dictionary) (h : Keeps c) where
    -- the number of the text behind all
    last_one : (t : Bytes) (i : ℕ) → length c.texts ≤ i → i < length (c.texts ++ (t ∷ [])) → Memᴰ i (length c.texts ∷ [])
    last_one t i a b = let e : i ≡ length c.texts = omega (arith, length-append c.texts (t ∷ [])) in Memᴰ.head e

    keeps_value : (g : ℕ) (v : Value) → Told D c.texts g v → Keeps (with_value g v c)
    unfolding flat_map
    keeps_value g v t =
        let term = term_of g (code_in (length c.texts) v) in
        let pages : map identifier_of_row (on_last (length c.terms) c.pages) ≡ map identifier_of_row c.pages = map_last (length c.terms) c.pages in
        record {
          labels = all_more is_labelled c.texts (value_texts v) h.labels (labels_value v);
          names = h.names;
          identifiers = rw pages h.identifiers;
          terms = all_more (is_term D) c.terms (term ∷ []) h.terms (all_one (is_term D) term t.fits);
          uses =
              used_all c (with_value g v c) [] [] (term_texts D term ++ [])
              (sym (append-nil (map name_of_row c.properties)))
              (pages ∙ sym (append-nil (map identifier_of_row c.pages)))
              (flat_append (term_texts D) c.terms (term ∷ []))
              (value_texts v) refl h.uses (λ i a b. inr (inr (Memᴰ.append_left [] (t.uses i a b))));
          shaped = mem_more (λ t. term_of (group_of t) (term_code t) ≡ t) c.terms term h.shaped (ap (term_of g) t.code);
        }

    -- what an entry adds
    module _ (few : length D.texts ≤ 2368) (ps : List Property) (declared : map (decode_property D) D.properties ≡ ps) where
      keeps_added : (e : Entry) → Good ps e → Grows (added ps c e) D → Keeps (added ps c e)
      unfolding added
      keeps_added (prop x k) q g =
          let row : PropertyRow = record { kind = k; name = length c.texts } in
          record {
            labels = all_more is_labelled c.texts (plain_text x ∷ []) h.labels (all_one is_labelled (plain_text x) (labelled_is [] x));
            names = all_more (λ p. is_plain_number D p.name) c.properties (row ∷ []) h.names (all_one (λ p. is_plain_number D p.name) row (plain_number D c.texts x g.texts));
            identifiers = h.identifiers;
            terms = h.terms;
            uses =
                used_all c (added ps c (prop x k)) (length c.texts ∷ []) [] []
                (map-append name_of_row c.properties (row ∷ []))
                (sym (append-nil (map identifier_of_row c.pages)))
                (sym (append-nil (flat_map (term_texts D) c.terms)))
                (plain_text x ∷ []) refl h.uses (λ i a b. inl (last_one (plain_text x) i a b));
            shaped = h.shaped;
          }
      keeps_added (page n x) q g =
          let row : PageRow = record { identifier = length c.texts; forms = [] } in
          let pages : map identifier_of_row (c.pages ++ (row ∷ [])) ≡ map identifier_of_row c.pages ++ (length c.texts ∷ []) = map-append identifier_of_row c.pages (row ∷ []) in
          let below : (i : ℕ) → Bool = λ i. ltb i (length D.texts) in
          record {
            labels = all_more is_labelled c.texts (labelled n x ∷ []) h.labels (all_one is_labelled (labelled n x) (labelled_is n x));
            names = h.names;
            identifiers =
                rw pages (all_more below (map identifier_of_row c.pages) (length c.texts ∷ []) h.identifiers (all_one below (length c.texts) (lt-ltb (length c.texts) (length D.texts) (front_there c.texts [] (labelled n x) g.texts))));
            terms = h.terms;
            uses =
                used_all c (added ps c (page n x)) [] (length c.texts ∷ []) []
                (sym (append-nil (map name_of_row c.properties)))
                pages
                (sym (append-nil (flat_map (term_texts D) c.terms)))
                (labelled n x ∷ []) refl h.uses (λ i a b. inr (inl (last_one (labelled n x) i a b)));
            shaped = h.shaped;
          }
      keeps_added (cat x) q g = keeps_value 0 (plain (string x)) (category_told_lem D few c.texts x g.texts)
      keeps_added (val x v) q g =
          let same : added ps c (val x v) ≡ with_value (suc (place_among ps x)) q.value c = rw q.read in
          let at : Grows (with_value (suc (place_among ps x)) q.value c) D = subst (λ (b : Dictionary). Grows b D) same g in
          subst Keeps (sym same) (keeps_value (suc (place_among ps x)) q.value (value_term_told D few ps declared c.texts x v q at.texts))
      keeps_added close q g = h

-- The numbers below one, as a list of uses.
up_to_used : (n : ℕ) → every_used n (up_to n) ≡ true
up_to_used n =
    mem_used n (up_to n)
    (λ i b. Memᴰ.cast (sym (get_d_tabulate n (λ j. j) 0 i b)) (mem_at (up_to n) i 0 (rw (length_tabulate n (λ j. j)) b)))

up_to_below : (n m : ℕ) → n ≤ m → all (λ f. ltb f m) (up_to n) ≡ true
unfolding tabulate all
up_to_below zero m h = refl
up_to_below (suc n) m h = all_more (λ f. ltb f m) (up_to n) (n ∷ []) (up_to_below n m (omega arith)) (all_one (λ f. ltb f m) n (lt-ltb n m (omega arith)))

-- Of an accepted text.
module _ (s : Bytes) (k l : List Entry) (t : Passed s k l) where
  abbrev D : Dictionary
  D = draft_of (properties l) l

  pub draft_fits : Fits D
  draft_fits = passed_fits s k l [] (rw (append-nil l) t) (properties l)

  few : length D.texts ≤ 2368
  few = omega (arith, draft_fits.texts)

  all_of_it : Grows (draft_from (properties l) no_draft l) D
  unfolding draft_of
  all_of_it = grows_self D

  declared : map (decode_property D) D.properties ≡ properties l
  unfolding draft_of
  declared = declared_from (properties l) D l no_draft all_of_it

  keeps : Keeps D D
  unfolding draft_of
  keeps = kept (properties l) (Keeps D) l no_draft (λ e m c g h. keeps_added D c h few (properties l) declared e (passed_good s k l t m) g) (keeps_none D)

  paged : Paged D (pages_of (properties l) l) D
  unfolding draft_of tabulate flat_map
  paged = pages_go D (properties l) few declared (passed_placed s k l t) no_draft all_of_it (λ e m. passed_good s k l t m) refl

  properties_told : (decode D).properties ≡ properties l
  unfolding decode
  properties_told = declared

  -- The draft of the entries of an accepted text is one.
  pub draft_kept : Draft D
  unfolding text_uses register_of
  draft_kept =
      record {
        labels = keeps.labels;
        names = keeps.names;
        identifiers = rw all_mapped at keeps.identifiers;
        terms = keeps.terms;
        forms = rw paged.forms (up_to_below (length D.terms) (length D.terms) (omega arith));
        terms_used = rw paged.forms (up_to_used (length D.terms));
        texts_used = mem_used (length D.texts) (text_uses D) (λ i b. used_mem D (keeps.uses i b));
        properties_once = rw properties_told (entries_sound l t.once t.few).properties_once;
        shaped = λ i b. keeps.shaped (term_in D i) (mem_at D.terms i [] b);
        few = omega (arith, few);
      }

  -- It describes the register that the text gives.
  pub draft_describes : drafted D ≡ register_of l
  unfolding drafted decode register_of page_in
  draft_describes = λ i. record { properties = declared i; pages = (map-map page_once (decode_page D) D.pages ∙ paged.pages) i }
