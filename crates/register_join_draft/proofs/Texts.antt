-- Items and their texts: two are the same where their texts tell the same.
use Prim.Native.Nat.{ℕ, ◌<◌}
use mathlib.Core.Path.{◌≡◌, refl, sym, ap, ap₂, ◌∙◌}
use mathlib.Core.Bool.{Bool, true, false, false≢true}
use mathlib.Core.Logic.{◌⊎◌, inl, inr}
use mathlib.Core.List.{[], Memᴰ}
use lib.Dec.{ltb, eqb}
use lib.ListN.{length}
use borrow.Author.Tests.{ltb-true, eq-eqb, ne_eqb, eqb-true}
use Rattle.text.specs.Bytes.{Bytes, order_of, same, all}
use Rattle.text.proofs.Laws.{same_refl, same_eq}
use Rattle.values.specs.Names.{same_identifier}
use Rattle.language.specs.Register.{distinct, same_page}
use Rattle.language.proofs.Members.{and_true, all_at, all_of}
use Rattle.language.proofs.Unions.{Likeness, by_key}
use Rattle.language.proofs.Sameness.{same_identifier_decides}
use Rattle.sorting.specs.Ascending.{rank}
use Rattle.register_form.specs.Dictionary.{PageRow, Dictionary, name_of, identifier_of, text_in, decode_page, decode}
use Rattle.register_form.specs.Encoding.{plain_text, identifier_text}
use Rattle.register_form.specs.Tests.{is_labelled, is_plain, is_plain_number}
use Rattle.register_form.proofs.Lists.{mem_at, mem_place, number_at}
use Rattle.register_form.proofs.Codes.{text_back, plain_back}
use Rattle.register_form.proofs.Described.{Canon, page_below}
use Rattle.register_join_merge.specs.Merged.{Itemed, Names, Merged}
use Rattle.register_join_draft.specs.Joined.{key_of, keys_of}
use Rattle.register_join_draft.proofs.Once.{distinct_of}

pub eqb_likeness : Likeness eqb
eqb_likeness = by_key (record { equal = eqb-true; itself = λ a. eq-eqb a a refl }) (λ x. x)

-- A test that holds where two numbers are the same.
pub decided : (f : Bool) (x y : ℕ) → (f ≡ true → x ≡ y) → (x ≡ y → f ≡ true) → f ≡ eqb x y
decided true x y g h = sym (eq-eqb x y (g refl))
decided false x y g h = sym (ne_eqb x y (λ e. false≢true (h e)))

-- A text of a dictionary, by an item.
named : (d D : Dictionary) (item : ℕ → ℕ) {i : ℕ} → Itemed d D.texts item → Canon d → Names d item i → is_labelled (text_in D i) ≡ true
named d D item {i} t c n =
    ap is_labelled (ap (text_in D) (sym n.is) ∙ t.text n.number n.below) ∙ all_at is_labelled c.labels (mem_at d.texts n.number [] n.below)

module _ (d e D : Dictionary) (item1 item2 : ℕ → ℕ) (c1 : Canon d) (c2 : Canon e) (m : Merged d e D.texts item1 item2) where
  label_at : (i : ℕ) → i < length D.texts → is_labelled (text_in D i) ≡ true
  label_at i b = go (m.each i b)
    where
      go : Names d item1 i ⊎ Names e item2 i → is_labelled (text_in D i) ≡ true
      go (inl n) = named d D item1 m.first c1 n
      go (inr n) = named e D item2 m.second c2 n

  pub labels : all is_labelled D.texts ≡ true
  labels = all_of is_labelled D.texts (λ t k. let q = mem_place [] k in ap is_labelled (sym q.2) ∙ label_at q.0 q.1)

  one : (x y : ℕ) → x < length D.texts → y < length D.texts → text_in D x ≡ text_in D y → x ≡ y
  one x y a b e = sym (number_at D.texts m.up x a) ∙ ap (λ (t : Bytes). rank order_of t D.texts) e ∙ number_at D.texts m.up y b

  -- Names and identifiers.
  pub same_name : (x y : ℕ) → is_plain_number D x ≡ true → is_plain_number D y ≡ true → same (name_of (text_in D x)) (name_of (text_in D y)) ≡ eqb x y
  unfolding is_plain_number
  same_name x y g h =
      let s = and_true (ltb x (length D.texts)) (is_plain (text_in D x)) g in
      let t = and_true (ltb y (length D.texts)) (is_plain (text_in D y)) h in
      let a = ltb-true x (length D.texts) s.0 in
      let b = ltb-true y (length D.texts) t.0 in
      decided (same (name_of (text_in D x)) (name_of (text_in D y))) x y
      (λ k. one x y a b
      (sym (plain_back (text_in D x) (label_at x a) s.1) ∙ ap plain_text (same_eq (name_of (text_in D x)) (name_of (text_in D y)) k) ∙ plain_back (text_in D y) (label_at y b) t.1))
      (λ k. ap (λ (z : ℕ). same (name_of (text_in D x)) (name_of (text_in D z))) (sym k) ∙ same_refl (name_of (text_in D x)))

  pub same_identifier_lem : (x y : ℕ) → x < length D.texts → y < length D.texts → same_identifier (identifier_of (text_in D x)) (identifier_of (text_in D y)) ≡ eqb x y
  same_identifier_lem x y a b =
      decided (same_identifier (identifier_of (text_in D x)) (identifier_of (text_in D y))) x y
      (λ k. one x y a b
      (sym (text_back (text_in D x) (label_at x a)) ∙ ap identifier_text (same_identifier_decides.equal (identifier_of (text_in D x)) (identifier_of (text_in D y)) k) ∙ text_back (text_in D y) (label_at y b)))
      (λ k. ap (λ (z : ℕ). same_identifier (identifier_of (text_in D x)) (identifier_of (text_in D z))) (sym k) ∙ same_identifier_decides.itself (identifier_of (text_in D x)))

-- The key of a page of a dictionary, and the identifier that it tells.
module _ (d D : Dictionary) (item : ℕ → ℕ) (i : Itemed d D.texts item) (c : Canon d) {r : PageRow} (m : Memᴰ r d.pages) where
  pub key_below : key_of d item r < length D.texts
  key_below = i.below r.identifier (page_below d c m)

  pub identifier_told : identifier_of (text_in D (key_of d item r)) ≡ (decode_page d r).identifier
  unfolding decode_page
  identifier_told = ap identifier_of (i.text r.identifier (page_below d c m))

-- No two pages have one key.
module _ (d e D : Dictionary) (item1 item2 : ℕ → ℕ) (c1 : Canon d) (c2 : Canon e) (m : Merged d e D.texts item1 item2) where
  pub keys_distinct : (x : Dictionary) (item : ℕ → ℕ) → Itemed x D.texts item → Canon x → distinct same_page (decode x).pages ≡ true → distinct eqb (keys_of x item) ≡ true
  unfolding decode keys_of
  keys_distinct x item i c h =
      distinct_of (key_of x item) (λ r s. same_page (decode_page x r) (decode_page x s)) eqb x.pages alike
      ∙ sym (distinct_of (decode_page x) (λ r s. same_page (decode_page x r) (decode_page x s)) same_page x.pages (λ a b k n. refl))
      ∙ h
    where
      alike : (a b : PageRow) → Memᴰ a x.pages → Memᴰ b x.pages → eqb (key_of x item a) (key_of x item b) ≡ same_page (decode_page x a) (decode_page x b)
      alike a b k n =
          sym (same_identifier_lem d e D item1 item2 c1 c2 m (key_of x item a) (key_of x item b) (key_below x D item i c k) (key_below x D item i c n))
          ∙ ap₂ same_identifier (identifier_told x D item i c k) (identifier_told x D item i c n)
