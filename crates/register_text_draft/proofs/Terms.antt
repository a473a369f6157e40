-- What the term of a category or a value tells in the draft that it is in at last.
use Rattle.std.specs.Prelude.{Some}
use Prim.Native.Nat.{ℕ, suc, ◌-◌, ◌≤◌, ◌<◌, ◌^◌}
use mathlib.Core.Path.{◌≡◌, refl, sym, ap, ◌∙◌}
use mathlib.Core.Bool.{Bool, true, false, cond}
use mathlib.Core.List.{List, [], ◌∷◌, ◌++◌, map, Memᴰ}
use native.Mathlib.Omega.{arith}
use lib.ListN.{length, get_or, length-append, length-map}
use borrow.Author.Tests.{lt-ltb, le-leb, ne_eqb}
use Rattle.text.specs.Bytes.{Bytes, same}
use Rattle.text.proofs.Laws.{same_eq}
use Rattle.values.specs.declared.Kind.{Kind}
use Rattle.values.specs.Values.{scalar, string, Value, plain, link, kind_of}
use Rattle.language.specs.Register.{Property, kind_among}
use Rattle.values.proofs.AllKinds.{range_small}
use Rattle.language.specs.Rules.{is_storable}
use Rattle.language.proofs.Members.{both_true, get_d_mapped}
use Rattle.register_form.specs.Dictionary.{Dictionary, name_of, term_of, term_code, is_category, value_from, text_in, property_in, no_property, category_of, held_of, decode_property}
use Rattle.register_form.specs.Encoding.{plain_text, identifier_text, value_texts, place_among}
use Rattle.register_form.specs.Tests.{is_plain_number, is_code, is_term, code_texts, term_texts}
use Rattle.register_form.proofs.Numbers.{code_back}
use Rattle.register_form.proofs.Codes.{space_back, name_back, plain_plain}
use Rattle.register_text_draft.specs.Drafting.{code_in}
use Rattle.register_text_draft.proofs.Growing.{Front, front_there, front_at}
use Rattle.register_text_draft.specs.Sizes.{Valued}

-- The texts l with those of a value behind them stand at the front of the draft's.
module _ (D : Dictionary) (l : List Bytes) where
  abbrev Behind : Value → Type 0
  Behind v = Front (l ++ value_texts v) D.texts

  pub plain_number : (x : Bytes) → Front (l ++ (plain_text x ∷ [])) D.texts → is_plain_number D (length l) ≡ true
  unfolding is_plain_number
  plain_number x f =
      both_true (lt-ltb (length l) (length D.texts) (front_there l [] (plain_text x) f)) (rw (front_at l [] (plain_text x) f) (plain_plain x))

  -- the value by its code
  value_told : (v : Value) → is_storable v ≡ true → Behind v → value_from D.texts (kind_of v) (code_in (length l) v) ≡ v
  unfolding value_texts is_storable
  value_told (plain (scalar k c)) s f = refl
  value_told (plain (string x)) s f = rw (front_at l [] (plain_text x) f, name_back [] x)
  value_told (link i) s f =
      rw (front_at l [] (identifier_text i) f, space_back i.namespace i.article, name_back i.namespace i.article)

  -- the code is one of the kind
  code_told : (v : Value) → Behind v → is_code D (kind_of v) (code_in (length l) v) ≡ true
  unfolding value_texts is_code
  code_told (plain (scalar k c)) f = refl
  code_told (plain (string x)) f = plain_number x f
  code_told (link i) f = lt-ltb (length l) (length D.texts) (front_there l [] (identifier_text i) f)

  code_small : (v : Value) → is_storable v ≡ true → Behind v → length D.texts ≤ 2368 → code_in (length l) v < 2 ^ 64
  unfolding value_texts is_storable
  code_small (plain (scalar k c)) s f few = range_small k c s
  code_small (plain (string x)) s f few = omega (arith, front_there l [] (plain_text x) f)
  code_small (link i) s f few = omega (arith, front_there l [] (identifier_text i) f)

  -- it names the value's text
  one : (t : Bytes) (i : ℕ) → length l ≤ i → i < length (l ++ (t ∷ [])) → Memᴰ i (length l ∷ [])
  one t i a b = let e : i ≡ length l = omega (arith, length-append l (t ∷ [])) in Memᴰ.head e

  texts_told : (v : Value) (i : ℕ) → length l ≤ i → i < length (l ++ value_texts v) → Memᴰ i (code_texts D (kind_of v) (code_in (length l) v))
  unfolding value_texts code_texts
  texts_told (plain (scalar k c)) i a b = absurd (omega (arith, length-append l []))
  texts_told (plain (string x)) i a b = one (plain_text x) i a b
  texts_told (link j) i a b = one (identifier_text j) i a b

-- A declared property stands in its place.
pub record Stands (ps : List Property) (x : Bytes) (k : Kind) (e : Property) : Type 0 where
  pub below : place_among ps x < length ps
  pub name : (get_or ps (place_among ps x) e).name ≡ x
  pub kind : (get_or ps (place_among ps x) e).kind ≡ k

pub stands : (ps : List Property) (x : Bytes) (k : Kind) (e : Property) → kind_among ps x ≡ Some k → Stands ps x k e
unfolding kind_among place_among
stands [] x k e h = absurd (let z : ◌≡◌ {A = ℕ} 0 1 = cc in omega arith)
stands (p ∷ l) x k e h = go (same p.name x) refl h (λ h. stands l x k e h)
  where
    go : (b : Bool) → same p.name x ≡ b → cond b (Some p.kind) (kind_among l x) ≡ Some k → (kind_among l x ≡ Some k → Stands l x k e) → Stands (p ∷ l) x k e
    go true q h r = record { below = rw q (omega arith); name = rw q (same_eq p.name x q); kind = rw q (let z : p.kind ≡ k = cc in z) }
    go false q h r = let t = r h in record { below = rw q (omega (arith, t.below)); name = rw q t.name; kind = rw q t.kind }

pub no_category : (p c : ℕ) → is_category (term_of (suc p) c) ≡ false
no_category p c = ne_eqb (suc p) 0 (λ e. omega arith)

-- The term of the value v in group g, whose text is behind the texts l.
pub record Told (D : Dictionary) (l : List Bytes) (g : ℕ) (v : Value) : Type 0 where
  pub code : term_code (term_of g (code_in (length l) v)) ≡ code_in (length l) v
  pub fits : is_term D (term_of g (code_in (length l) v)) ≡ true
  pub uses : (i : ℕ) → length l ≤ i → i < length (l ++ value_texts v) → Memᴰ i (term_texts D (term_of g (code_in (length l) v)))

module _ (D : Dictionary) (few : length D.texts ≤ 2368) where
  module _ (l : List Bytes) (x : Bytes) (f : Front (l ++ value_texts (plain (string x))) D.texts) where
    -- A category.
    abbrev c : ℕ
    c = code_in (length l) (plain (string x))

    there : length l < length D.texts
    unfolding value_texts
    there = front_there l [] (plain_text x) f

    category_code : term_code (term_of 0 c) ≡ c
    category_code = code_back 0 c (omega (arith, there))

    pub category_told_lem : Told D l 0 (plain (string x))
    unfolding is_term term_texts value_texts
    category_told_lem =
        record {
          code = category_code;
          fits = rw category_code (plain_number D l x f);
          uses = λ i a b. rw category_code (one D l (plain_text x) i a b);
        }

    pub category_is : category_of D (term_of 0 c) ≡ x
    unfolding category_of value_texts
    category_is = rw (category_code, front_at l [] (plain_text x) f, name_back [] x)

  module _ (ps : List Property) (declared : map (decode_property D) D.properties ≡ ps) where
    none_such : Property
    none_such = record { name = []; kind = Kind.Page }

    size : length D.properties ≡ length ps
    size = sym (length-map D.properties (decode_property D)) ∙ ap length declared

    row : (i : ℕ) → i < length ps → get_or ps i none_such ≡ decode_property D (property_in D i)
    row i b = ap (λ (z : List Property). get_or z i none_such) (sym declared) ∙ get_d_mapped (decode_property D) D.properties i (no_property D) none_such (omega (arith, size))

    -- A value.
    module _ (l : List Bytes) (x v : Bytes) (q : Valued ps x v) (f : Front (l ++ value_texts q.value) D.texts) where
      before : suc (place_among ps x) - 1 ≡ place_among ps x
      before = omega arith

      at : Stands ps x (kind_of q.value) none_such
      at = stands ps x (kind_of q.value) none_such q.kind

      value_code_lem : term_code (term_of (suc (place_among ps x)) (code_in (length l) q.value)) ≡ code_in (length l) q.value
      value_code_lem = code_back (suc (place_among ps x)) (code_in (length l) q.value) (code_small D l q.value q.storable f few)

      kind_there : (property_in D (suc (place_among ps x) - 1)).kind ≡ kind_of q.value
      unfolding decode_property
      kind_there = ap (λ (i : ℕ). (property_in D i).kind) before ∙ sym (ap (λ (p : Property). p.kind) (row (place_among ps x) at.below)) ∙ at.kind

      name_there : name_of (text_in D (property_in D (suc (place_among ps x) - 1)).name) ≡ x
      unfolding decode_property
      name_there = ap (λ (i : ℕ). name_of (text_in D (property_in D i).name)) before ∙ sym (ap (λ (p : Property). p.name) (row (place_among ps x) at.below)) ∙ at.name

      pub value_term_told : Told D l (suc (place_among ps x)) q.value
      unfolding is_term term_texts
      value_term_told =
          record {
            code = value_code_lem;
            fits = rw (no_category (place_among ps x) (code_in (length l) q.value), value_code_lem, kind_there, code_told D l q.value f, le-leb (suc (place_among ps x)) (length D.properties) (omega (arith, at.below, size)));
            uses = λ i a b. rw (no_category (place_among ps x) (code_in (length l) q.value), value_code_lem, kind_there) (texts_told D l q.value i a b);
          }

      pub value_is : held_of D (term_of (suc (place_among ps x)) (code_in (length l) q.value)) ≡ record { property = x; value = q.value }
      unfolding held_of
      value_is =
          let value : value_from D.texts (property_in D (suc (place_among ps x) - 1)).kind (term_code (term_of (suc (place_among ps x)) (code_in (length l) q.value))) ≡ q.value =
          rw (value_code_lem, kind_there) (value_told D l q.value q.storable f) in
          λ i. record { property = name_there i; value = value i }
