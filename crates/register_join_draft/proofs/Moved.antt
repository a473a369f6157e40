-- A dictionary's terms in a draft, with items for the numbers of texts: they tell there what they tell in the dictionary.
use Prim.Native.Nat.{ℕ, suc, ◌-◌, ◌<◌}
use mathlib.Core.Path.{◌≡◌, refl, sym, ap, ap₂, ◌∙◌}
use mathlib.Core.Bool.{true, false}
use mathlib.Core.List.{List, [], ◌∷◌, ◌++◌, map, Memᴰ}
use native.Mathlib.Omega.{arith}
use lib.Dec.{ltb}
use lib.ListN.{length}
use borrow.Author.Tests.{ltb-true, lt-ltb, le-leb, eqb-false, ne_eqb}
use Rattle.text.specs.Bytes.{Bytes}
use Rattle.values.specs.declared.Kind.{Kind}
use Rattle.language.specs.Register.{Held}
use Rattle.language.proofs.Members.{and_true, both_true, all_at, by_test}
use Rattle.buffer.specs.Numbers.{two_at, eight_at}
use Rattle.register_form.specs.Dictionary.{PropertyRow, Dictionary, name_of, term_of, group_of, term_code, is_category, value_from, text_in, property_in, no_property, category_of, held_of, categories_in, values_in}
use Rattle.register_form.specs.Tests.{is_plain, is_plain_number, is_code, is_term, code_texts, term_texts}
use Rattle.register_form.proofs.Lists.{mem_at}
use Rattle.register_form.proofs.Numbers.{code_back}
use Rattle.register_form.proofs.Described.{Canon, Shaped, category_name, plain_below, category_fits, value_group_fits, value_code_fits}
use Rattle.register_join_merge.specs.Merged.{Itemed}
use Rattle.register_join_draft.specs.Joined.{name_in, row_of, code_by, moved_term}
use Rattle.register_join_draft.proofs.Places.{Stands}

-- A dictionary in a draft: its texts by their items, and its properties.
pub record Source (d D : Dictionary) (item : ℕ → ℕ) : Type 0 where
  pub canon : Canon d
  pub shaped : Shaped d
  pub items : Itemed d D.texts item
  pub few : length D.texts < 65536
  pub rows : {p : PropertyRow} → Memᴰ p d.properties → Stands D.properties (row_of d item p)

-- A term's code does not depend on its group.
code_free : (g h c : ℕ) → term_code (term_of g c) ≡ term_code (term_of h c)
unfolding eight_at two_at
code_free g h c = refl

-- A number of a plain text is an item of one.
pub item_plain : (d D : Dictionary) (item : ℕ → ℕ) → Itemed d D.texts item → (x : ℕ) → is_plain_number d x ≡ true → is_plain_number D (item x) ≡ true
unfolding is_plain_number
item_plain d D item i x h =
    let t = and_true (ltb x (length d.texts)) (is_plain (text_in d x)) h in
    let b = ltb-true x (length d.texts) t.0 in
    both_true (lt-ltb (item x) (length D.texts) (i.below x b)) (ap is_plain (i.text x b) ∙ t.1)

module _ (d D : Dictionary) (item : ℕ → ℕ) (s : Source d D item) where
  abbrev moved : Bytes → Bytes
  moved t = moved_term d item (map name_in D.properties) t

  -- Numbers of texts.
  item_code : (g x : ℕ) → x < length d.texts → term_code (term_of g (item x)) ≡ item x
  item_code g x b = code_back g (item x) (omega (arith, s.items.below x b, s.few))

  -- Categories.
  module _ {t : Bytes} (m : Memᴰ t d.terms) (e : is_category t ≡ true) where
    category_moved : moved t ≡ term_of 0 (item (term_code t))
    unfolding moved_term
    category_moved = rw e

    category_below : term_code t < length d.texts
    category_below = plain_below d (term_code t) (category_fits d s.canon.terms m e)

    category_group : is_category (moved t) ≡ true
    category_group = ap is_category category_moved

    category_code : term_code (moved t) ≡ item (term_code t)
    category_code = ap term_code category_moved ∙ item_code 0 (term_code t) category_below

    category_told_lem : category_of D (moved t) ≡ category_of d t
    category_told_lem =
        category_name D (moved t) ∙ ap (λ (x : ℕ). name_of (text_in D x)) category_code ∙ ap name_of (s.items.text (term_code t) category_below) ∙ sym (category_name d t)

    category_term_lem : is_term D (moved t) ≡ true
    unfolding is_term
    category_term_lem = rw (category_group, category_code) (item_plain d D item s.items (term_code t) (category_fits d s.canon.terms m e))

    category_shaped : term_of (group_of (moved t)) (term_code (moved t)) ≡ moved t
    category_shaped = ap₂ term_of (ap group_of category_moved) category_code ∙ sym category_moved

    category_texts : {i : ℕ} → Memᴰ i (term_texts d t) → Memᴰ (item i) (term_texts D (moved t))
    unfolding term_texts
    category_texts {i} n =
        let k : Memᴰ i (term_code t ∷ []) = rw e at n in
        rw (category_group, category_code) (mathlib.Core.List.Memᴰ.head (ap item (mathlib.Core.List.Memᴰ.eq_of_singleton k)))

  -- Codes of values.
  code_kept : (g : ℕ) {t : Bytes} → Memᴰ t d.terms → term_code (term_of g (term_code t)) ≡ term_code t
  code_kept g {t} m = code_free g (group_of t) (term_code t) ∙ ap term_code (s.shaped t m)

  value_code_lem : (g : ℕ) (k : Kind) {t : Bytes} → Memᴰ t d.terms → is_code d k (term_code t) ≡ true → term_code (term_of g (code_by item k (term_code t))) ≡ code_by item k (term_code t)
  unfolding code_by is_code
  value_code_lem g Kind.Page {t} m h = item_code g (term_code t) (ltb-true (term_code t) (length d.texts) h)
  value_code_lem g (Kind.Scalar k) m h = code_kept g m
  value_code_lem g Kind.String {t} m h = item_code g (term_code t) (plain_below d (term_code t) h)

  value_from_lem : (k : Kind) (n : ℕ) → is_code d k n ≡ true → value_from D.texts k (code_by item k n) ≡ value_from d.texts k n
  unfolding code_by is_code
  value_from_lem Kind.Page n h = rw (s.items.text n (ltb-true n (length d.texts) h))
  value_from_lem (Kind.Scalar k) n h = refl
  value_from_lem Kind.String n h = rw (s.items.text n (plain_below d n h))

  value_is : (k : Kind) (n : ℕ) → is_code d k n ≡ true → is_code D k (code_by item k n) ≡ true
  unfolding code_by is_code
  value_is Kind.Page n h = lt-ltb (item n) (length D.texts) (s.items.below n (ltb-true n (length d.texts) h))
  value_is (Kind.Scalar k) n h = refl
  value_is Kind.String n h = item_plain d D item s.items n h

  value_names : (k : Kind) (n : ℕ) {i : ℕ} → Memᴰ i (code_texts d k n) → Memᴰ (item i) (code_texts D k (code_by item k n))
  unfolding code_by code_texts
  value_names Kind.Page n m = mathlib.Core.List.Memᴰ.head (ap item (mathlib.Core.List.Memᴰ.eq_of_singleton m))
  value_names (Kind.Scalar k) n m = absurd (mathlib.Core.List.Memᴰ.not-nil m)
  value_names Kind.String n m = mathlib.Core.List.Memᴰ.head (ap item (mathlib.Core.List.Memᴰ.eq_of_singleton m))

  -- Values.
  module _ {t : Bytes} (m : Memᴰ t d.terms) (e : is_category t ≡ false) where
    abbrev property : PropertyRow
    property = property_in d (group_of t - 1)

    property_there : Memᴰ property d.properties
    property_there =
        mem_at d.properties (group_of t - 1) (no_property d) (let positive : (group_of t ≡ 0) → ⊥ = eqb-false (group_of t) 0 e in omega (arith, value_group_fits d s.canon.terms m e, positive))

    there : Stands D.properties (row_of d item property)
    there = s.rows property_there

    value_moved : moved t ≡ term_of (suc there.place) (code_by item property.kind (term_code t))
    unfolding moved_term
    value_moved = rw (e, there.is)

    value_group : group_of (moved t) ≡ suc there.place
    value_group = ap group_of value_moved

    value_apart : is_category (moved t) ≡ false
    value_apart = ap is_category value_moved ∙ ne_eqb (suc there.place) 0 (λ e. omega arith)

    value_row : property_in D (group_of (moved t) - 1) ≡ row_of d item property
    value_row =
        ap (property_in D) (let y : group_of (moved t) - 1 ≡ there.place = omega (arith, value_group) in y) ∙ there.row (no_property D)

    moved_code : term_code (moved t) ≡ code_by item property.kind (term_code t)
    moved_code = ap term_code value_moved ∙ value_code_lem (suc there.place) property.kind m (value_code_fits d s.canon.terms m e)

    name_below : property.name < length d.texts
    name_below = plain_below d property.name (all_at (λ p. is_plain_number d p.name) s.canon.names property_there)

    value_told : held_of D (moved t) ≡ held_of d t
    unfolding held_of
    value_told =
        λ i.
        record {
          property = (ap (λ (r : PropertyRow). name_of (text_in D r.name)) value_row ∙ ap name_of (s.items.text property.name name_below)) i;
          value = (ap₂ (λ (k : Kind) (n : ℕ). value_from D.texts k n) (ap (λ (r : PropertyRow). r.kind) value_row) moved_code ∙ value_from_lem property.kind (term_code t) (value_code_fits d s.canon.terms m e)) i;
        }

    value_term_lem : is_term D (moved t) ≡ true
    unfolding is_term
    value_term_lem =
        rw (value_apart, value_row, moved_code)
        (both_true (le-leb (group_of (moved t)) (length D.properties) (omega (arith, value_group, there.below))) (value_is property.kind (term_code t) (value_code_fits d s.canon.terms m e)))

    value_shaped : term_of (group_of (moved t)) (term_code (moved t)) ≡ moved t
    value_shaped = ap₂ term_of value_group moved_code ∙ sym value_moved

    value_texts_lem : {i : ℕ} → Memᴰ i (term_texts d t) → Memᴰ (item i) (term_texts D (moved t))
    unfolding term_texts
    value_texts_lem {i} n =
        let k : Memᴰ i (code_texts d property.kind (term_code t)) = rw e at n in
        rw (value_apart, value_row, moved_code) (value_names property.kind (term_code t) k)

  -- Whichever it is.
  either : {A : Type 0} (t : Bytes) → (is_category t ≡ true → A) → (is_category t ≡ false → A) → A
  either t f g = by_test (is_category t) f g

  pub term_fits : {t : Bytes} → Memᴰ t d.terms → is_term D (moved t) ≡ true
  term_fits {t} m = either t (λ e. category_term_lem m e) (λ e. value_term_lem m e)

  pub term_shaped : {t : Bytes} → Memᴰ t d.terms → term_of (group_of (moved t)) (term_code (moved t)) ≡ moved t
  term_shaped {t} m = either t (λ e. category_shaped m e) (λ e. value_shaped m e)

  pub term_texts_lem : {t : Bytes} {i : ℕ} → Memᴰ t d.terms → Memᴰ i (term_texts d t) → Memᴰ (item i) (term_texts D (moved t))
  term_texts_lem {t} m n = either t (λ e. category_texts m e n) (λ e. value_texts_lem m e n)

  pub categories_told : (l : List Bytes) → ((t : Bytes) → Memᴰ t l → Memᴰ t d.terms) → categories_in D (map moved l) ≡ categories_in d l
  unfolding categories_in
  categories_told [] h = refl
  categories_told (t ∷ l) h =
      let m = h t (mathlib.Core.List.Memᴰ.head refl) in
      let later = categories_told l (λ u n. h u (mathlib.Core.List.Memᴰ.tail n)) in
      either t
      (λ e. rw (category_group m e, e) (ap₂ (λ (a : Bytes) (r : List Bytes). a ∷ r) (category_told_lem m e) later))
      (λ e. rw (value_apart m e, e) later)

  pub values_told : (l : List Bytes) → ((t : Bytes) → Memᴰ t l → Memᴰ t d.terms) → values_in D (map moved l) ≡ values_in d l
  unfolding values_in
  values_told [] h = refl
  values_told (t ∷ l) h =
      let m = h t (mathlib.Core.List.Memᴰ.head refl) in
      let later = values_told l (λ u n. h u (mathlib.Core.List.Memᴰ.tail n)) in
      either t
      (λ e. rw (category_group m e, e) later)
      (λ e. rw (value_apart m e, e) (ap₂ (λ (a : Held) (r : List Held). a ∷ r) (value_told m e) later))
