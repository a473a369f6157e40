-- What the term of a value tells: the value, and the page that it leads to.
use Rattle.std.specs.Prelude.{Option, Some, None}
use Prim.Native.Nat.{ℕ, zero, suc, ◌<◌}
use mathlib.Core.Path.{◌≡◌, refl, sym, ap, ap₂, ◌∙◌}
use mathlib.Core.Bool.{Bool, true, false, cond, not, ◌&&◌, ◌||◌, or-false, true≢false}
use mathlib.Core.List.{List, [], ◌∷◌, map, Memᴰ}
use native.Mathlib.Omega.{arith}
use borrow.Author.Tests.{not-true, eq-eqb, eqb-true}
use lib.Dec.{eqb}
use lib.ListN.{length, get_or}
use Rattle.text.specs.Bytes.{Bytes, order_of, any}
use Rattle.text.specs.Parts.{part_of}
use Rattle.text.specs.declared.Span.{Span}
use Rattle.values.specs.Answers.{reference_at, split_of}
use Rattle.values.specs.declared.Split.{Split}
use Rattle.values.specs.Names.{Identifier, same_identifier}
use Rattle.values.specs.Values.{scalar, string, Value, plain, link, kind_of}
use Rattle.values.proofs.Sameness.{identifier_eq, identifier_refl}
use Rattle.language.specs.Register.{Held, Page, Register, leads, distinct, same_page}
use Rattle.language.specs.RegisterText.{empty_page}
use Rattle.language.specs.Rules.{is_storable}
use Rattle.language.specs.References.{stands_as, article_meant, is_meant}
use Rattle.language.specs.Semantics.{stands, Cv, Cl, follows, no_mixed}
use Rattle.language.specs.declared.Comparator.{Comparator}
use Rattle.language.specs.declared.SurfaceComparator.{SurfaceComparator}
use Rattle.language.proofs.Members.{and_true, any_at, any_none, by_test}
use Rattle.query_core.specs.Reading.{constant_by}
use Rattle.query_core.specs.declared.Constant.{Constant}
use Rattle.sorting.specs.Ascending.{rank}
use Rattle.sorting.proofs.Canonical.{same_truth}
use Rattle.buffer.specs.Numbers.{two_at, eight_at}
use Rattle.register_form.specs.Dictionary.{Dictionary, space_of, name_of, identifier_of, term_code}
use Rattle.register_form.specs.Encoding.{plain_text, identifier_text, value_texts, texts_of, value_code, value_term, terms_of, encode_page, encode}
use Rattle.register_form.specs.Form.{term_at, text_at, dictionary_in}
use Rattle.register_form.specs.Opened.{page_in, next, place_of, Places, Opened}
use Rattle.register_form.proofs.Lists.{number_back, number_small}
use Rattle.register_form.proofs.Codes.{space_back, name_back}
use Rattle.register_form.proofs.Rules.{value_kept, texts_few}
use Rattle.register_form.proofs.Decoded.{page_text, value_text, texts_up, terms_up_lem, value_code_lem}
use Rattle.register_form_view.specs.Ranges.{RankOf, ConstantRank, TestRank, name_order, term_number}
use Rattle.register_form_view.specs.View.{text_number, value_at, stands_at, namespace_fits, meant_at, passes, passes_at, marked, leads_into, Agrees}
use Rattle.register_form_view.specs.declared.Rank.{Rank}
use Rattle.register_form_view.specs.declared.ValueTest.{ValueTest}
use Rattle.register_form_view.proofs.Opening.{Known, known, term_row, text_row, texts_are}
use Rattle.register_form_view.proofs.Ordering.{name_order_lem}
use Rattle.register_form_view.proofs.Covering.{value_in}

-- A code below 65,536 is its two low bytes.
low_bytes : (t : Bytes) → term_code t < 65536 → two_at t 1 ≡ term_code t
unfolding eight_at
low_bytes t l = omega arith

ident_back : (i : Identifier) → identifier_of (identifier_text i) ≡ i
ident_back i = λ j. record { namespace = space_back i.namespace i.article j; article = name_back i.namespace i.article j }

-- The article name of a split's reference.
article_split : (q : Bytes) (s : Split) → article_meant (split_of q s) ≡ part_of q s.article
article_split q s = go s.namespace
  where
    go : (n : Option Span) → article_meant (reference_at q n s.article) ≡ part_of q s.article
    go None = refl
    go (Some p) = refl

module _ {h : Bytes} {R : Register} (d : Known h R) {p : Page} {v : Held} (m : Memᴰ p R.pages) (n : Memᴰ v p.values) where
  -- the number of the value's term
  abbrev pub form : ℕ
  form = term_number R (value_term R v)

  code_there : term_code (term_at h form) ≡ value_code (texts_of R) v.value
  code_there =
      let inside = value_in R m n in
      ap term_code (term_row d form (number_small (terms_of R) (terms_up_lem R) (value_term R v) inside) ∙ number_back (terms_of R) (terms_up_lem R) (value_term R v) inside)
      ∙ value_code_lem R d.keeps d.limits m n

  -- the text that it names
  module _ (t : Bytes) (e : value_code (texts_of R) v.value ≡ rank order_of t (texts_of R)) (in-texts : Memᴰ t (texts_of R)) where
    pub number_there : text_number h form ≡ rank order_of t (texts_of R)
    unfolding text_number
    number_there =
        let small = number_small (texts_of R) (texts_up R) t in-texts in
        low_bytes (term_at h form) (omega (arith, code_there, texts_few R d.limits)) ∙ code_there ∙ e

    text_there : text_at h (text_number h form) ≡ t
    text_there =
        ap (text_at h) number_there
        ∙ text_row d (rank order_of t (texts_of R)) (number_small (texts_of R) (texts_up R) t in-texts)
        ∙ number_back (texts_of R) (texts_up R) t in-texts

  pub value_there : value_at h (kind_of v.value) form ≡ v.value
  unfolding value_code value_texts is_storable
  value_there = go v.value refl code_there (value_kept R d.keeps m n) (value_text R m n)
    where
      go : (u : Value) → v.value ≡ u → term_code (term_at h form) ≡ value_code (texts_of R) u → is_storable u ≡ true → ((t : Bytes) → Memᴰ t (value_texts u) → Memᴰ t (texts_of R)) → value_at h (kind_of u) form ≡ u
      go (plain (scalar k n)) e c s texts = ap (λ (j : ℕ). plain (scalar k j)) c
      go (plain (string s)) e c k texts =
          ap (λ (a : Bytes). plain (string (name_of a))) (text_there (plain_text s) (ap (value_code (texts_of R)) e) (texts (plain_text s) (Memᴰ.head refl)))
          ∙ ap (λ (a : Bytes). plain (string a)) (name_back [] s)
      go (link i) e c s texts =
          ap (λ (a : Bytes). link (identifier_of a)) (text_there (identifier_text i) (ap (value_code (texts_of R)) e) (texts (identifier_text i) (Memᴰ.head refl)))
          ∙ ap link (ident_back i)

  -- it stands to a constant as the value does
  stands_there : (q : Bytes) (r : Rank) (c : Comparator) (w : Constant) → ConstantRank h q w r → stands_at h q r c w (kind_of v.value) form ≡ Cv no_mixed c (constant_by q w) v.value
  unfolding Cv ConstantRank value_code value_texts
  stands_there q r c w f = go v.value refl value_there (value_text R m n) w f
    where
      go : (u : Value) → v.value ≡ u → value_at h (kind_of u) form ≡ u → ((t : Bytes) → Memᴰ t (value_texts u) → Memᴰ t (texts_of R)) → (w : Constant) → ConstantRank h q w r → stands_at h q r c w (kind_of u) form ≡ Cv no_mixed c (constant_by q w) u
      go u e at texts (Constant.Scalar j b) f = ap (Cv no_mixed c (constant_by q (Constant.Scalar j b))) at
      go (plain (scalar k c)) e at texts (Constant.String p) f = refl
      go (link i) e at texts (Constant.String p) f = refl
      go (plain (string s)) e at texts (Constant.String p) f =
          let there = texts (plain_text s) (Memᴰ.head refl) in
          ap (λ (j : ℕ). stands c (name_order h (part_of q p) r j)) (number_there (plain_text s) (ap (value_code (texts_of R)) e) there)
          ∙ ap (stands c) (name_order_lem d (part_of q p) r f (plain_text s) there [] s refl)

  -- it is a link that a reference means where the value is one
  pub meant_there : (q : Bytes) (r : Rank) (c : SurfaceComparator) (s : Split) → RankOf h (part_of q s.article) r → meant_at h q r c s (kind_of v.value) form ≡ Cl no_mixed c (split_of q s) v.value
  unfolding Cl is_meant value_code value_texts
  meant_there q r c s f = go v.value refl (value_text R m n)
    where
      go : (u : Value) → v.value ≡ u → ((t : Bytes) → Memᴰ t (value_texts u) → Memᴰ t (texts_of R)) → meant_at h q r c s (kind_of u) form ≡ Cl no_mixed c (split_of q s) u
      go (plain (scalar k b)) e texts = refl
      go (plain (string t)) e texts = refl
      go (link i) e texts =
          let there = texts (identifier_text i) (Memᴰ.head refl) in
          let is = ap (value_code (texts_of R)) e in
          ap₂ ◌&&◌
          (ap (λ (t : Bytes). namespace_fits c (split_of q s) (space_of t)) (text_there (identifier_text i) is there) ∙ ap (namespace_fits c (split_of q s)) (space_back i.namespace i.article))
          (ap (λ (j : ℕ). stands_as c (name_order h (part_of q s.article) r j)) (number_there (identifier_text i) is there)
          ∙ ap (stands_as c) (name_order_lem d (part_of q s.article) r f (identifier_text i) there i.namespace i.article refl ∙ ap (order_of i.article) (sym (article_split q s))))

  -- it passes a test as the value does
  pub passes_there : (q : Bytes) (r : Rank) (test : ValueTest) → TestRank h q test r → passes_at h q r test (kind_of v.value) form ≡ passes q test v.value
  unfolding TestRank
  passes_there q r (ValueTest.Constant c w) f = stands_there q r c w f
  passes_there q r (ValueTest.Reference c s) f = meant_there q r c s f

-- The mark of a place, 1 more than a page's
abbrev mark_by : (ℕ → Bool) → ℕ → Bool
mark_by f zero = false
mark_by f (suc k) = f k

mark_next : (f : ℕ → Bool) (k : ℕ) → mark_by f (next k) ≡ mark_by (λ j. f (suc j)) k
mark_next f zero = refl
mark_next f (suc k) = refl

-- Pages by the numbers of their identifiers.
module _ (R : Register) (i : Identifier) (there : Memᴰ (identifier_text i) (texts_of R)) where
  same_number : {p : Page} → Memᴰ p R.pages → eqb (rank order_of (identifier_text p.identifier) (texts_of R)) (rank order_of (identifier_text i) (texts_of R)) ≡ same_identifier p.identifier i
  same_number {p} m =
      let a = rank order_of (identifier_text p.identifier) (texts_of R) in
      let b = rank order_of (identifier_text i) (texts_of R) in
      same_truth (eqb a b) (same_identifier p.identifier i)
      (λ e. let t : identifier_text p.identifier ≡ identifier_text i = sym (number_back (texts_of R) (texts_up R) (identifier_text p.identifier) (page_text R m)) ∙ ap (λ (j : ℕ). get_or (texts_of R) j []) (eqb-true a b e) ∙ number_back (texts_of R) (texts_up R) (identifier_text i) there in
      let is : p.identifier ≡ i = sym (ident_back p.identifier) ∙ ap identifier_of t ∙ ident_back i in
      ap (same_identifier p.identifier) (sym is) ∙ identifier_refl p.identifier)
      (λ e. eq-eqb a b (ap (λ (j : Identifier). rank order_of (identifier_text j) (texts_of R)) (identifier_eq p.identifier i e)))

  -- where no page of l is like p, none has the identifier that p has
  none_else : (p : Page) (test : Page → Bool) (l : List Page) → same_identifier p.identifier i ≡ true → any (same_page p) l ≡ false → any (λ q. same_identifier q.identifier i && test q) l ≡ false
  none_else p test l e h =
      any_none _ l (λ q m. by_test (same_identifier q.identifier i) (λ y. absurd (true≢false (sym (alike q y) ∙ any_at (same_page p) h m))) (λ n. rw n))
    where
      alike : (q : Page) → same_identifier q.identifier i ≡ true → same_page p q ≡ true
      alike q y = ap (same_identifier p.identifier) (identifier_eq _ _ y ∙ sym (identifier_eq _ _ e)) ∙ identifier_refl p.identifier

  row_number : (p : Page) → (encode_page R p).identifier ≡ rank order_of (identifier_text p.identifier) (texts_of R)
  unfolding encode_page
  row_number p = refl

  -- where no two pages have one identifier, that some page that has it passes is that the page in its place passes
  leads_among : (test : Page → Bool) (e : Page) (l : List Page) (f : ℕ → Bool) → ((p : Page) → Memᴰ p l → Memᴰ p R.pages) → distinct same_page l ≡ true → ((j : ℕ) → j < length l → f j ≡ test (get_or l j e))
      → mark_by f (place_of (map (encode_page R) l) (rank order_of (identifier_text i) (texts_of R))) ≡ any (λ p. same_identifier p.identifier i && test p) l
  unfolding place_of any distinct
  leads_among test e [] f inside once agrees = refl
  leads_among test e (p ∷ l) f inside once agrees =
      let both = and_true (not (any (same_page p) l)) (distinct same_page l) once in
      let c = rank order_of (identifier_text i) (texts_of R) in
      let is : eqb (encode_page R p).identifier c ≡ same_identifier p.identifier i = ap (λ (k : ℕ). eqb k c) (row_number p) ∙ same_number (inside p (Memᴰ.head refl)) in
      ap (λ (b : Bool). mark_by f (cond b 1 (next (place_of (map (encode_page R) l) c)))) is
      ∙ go (same_identifier p.identifier i) (any (λ p. same_identifier p.identifier i && test p) l) (place_of (map (encode_page R) l) c) (λ y. none_else p test l y (not-true (any (same_page p) l) both.0))
      (leads_among test e l (λ j. f (suc j)) (λ q m. inside q (Memᴰ.tail m)) both.1 (λ j b. agrees (suc j) (omega arith)))
    where
      go : (b : Bool) (among : Bool) (rest : ℕ) → (b ≡ true → among ≡ false) → mark_by (λ j. f (suc j)) rest ≡ among → mark_by f (cond b 1 (next rest)) ≡ ((b && test p) || among)
      go true among rest alone ih = agrees 0 (omega arith) ∙ sym (rw (alone refl) (or-false (test p)))
      go false among rest alone ih = mark_next f rest ∙ ih

-- A value leads to a page that is wanted where the page in its place is marked.
module _ {h : Bytes} {places : List ℕ} {R : Register} (o : Opened h places R) {p : Page} {v : Held} (m : Memᴰ p R.pages) (n : Memᴰ v p.values) (marks : List Bool) (inner : Page → Bool) (agrees : Agrees R marks inner) where
  pub leads_there : leads_into h places marks (kind_of v.value) (form (known o) m n) ≡ follows no_mixed R inner v.value
  unfolding follows leads value_code value_texts Places Agrees page_in encode
  leads_there = go v.value refl (value_text R m n)
    where
      by_mark : (k : ℕ) → marked marks k ≡ mark_by (λ j. get_or marks j false) k
      by_mark zero = refl
      by_mark (suc k) = refl

      go : (u : Value) → v.value ≡ u → ((t : Bytes) → Memᴰ t (value_texts u) → Memᴰ t (texts_of R)) → leads_into h places marks (kind_of u) (form (known o) m n) ≡ follows no_mixed R inner u
      go (plain (scalar k c)) e texts = refl
      go (plain (string s)) e texts = refl
      go (link i) e texts =
          let d = known o in
          let there = texts (identifier_text i) (Memᴰ.head refl) in
          let c = rank order_of (identifier_text i) (texts_of R) in
          let small : c < length (dictionary_in h).texts = rw (texts_are d) (number_small (texts_of R) (texts_up R) (identifier_text i) there) in
          ap (λ (j : ℕ). marked marks (get_or places j 0)) (number_there d m n (identifier_text i) (ap (value_code (texts_of R)) e) there)
          ∙ ap (marked marks) (o.pages c small ∙ ap (λ (b : Dictionary). place_of b.pages c) d.is)
          ∙ by_mark (place_of (map (encode_page R) R.pages) c)
          ∙ leads_among R i there inner (empty_page [] []) R.pages (λ k. get_or marks k false) (λ q w. w) d.keeps.pages_once agrees
