-- The names of a held register: texts by their numbers, properties by their names, pages by their places.
use Rattle.std.specs.Prelude.{Some, None}
use Prim.Native.Nat.{ℕ, suc, ◌+◌, ◌≤◌, ◌<◌}
use mathlib.Core.Path.{◌≡◌, refl, sym, ap, ◌∙◌}
use mathlib.Core.Bool.{Bool, true, false, cond}
use mathlib.Core.List.{List, [], ◌∷◌}
use native.Mathlib.Nat.{add-zero, zero-add}
use native.Mathlib.Numerals.{add-one}
use native.Mathlib.Omega.{arith}
use lib.ListN.{length, get_or, drop, drop_of_length-le, get_or-eq_default, length-map}
use lib.Seq.{drop-cons}
use Rattle.text.specs.Bytes.{Bytes, part, same}
use Rattle.text.specs.Table.{tabulate}
use Rattle.text.proofs.Tables.{length_tabulate, get_d_tabulate}
use Rattle.values.specs.declared.Kind.{Kind}
use Rattle.language.specs.Register.{Property, Page, kind_among, kinds_of}
use Rattle.language.specs.RegisterText.{empty_page}
use Rattle.language.proofs.Members.{get_d_mapped}
use Rattle.register_form.specs.Dictionary.{space_of, name_of, text_in, no_property, decode_property, decode_page, decode}
use Rattle.register_form.specs.Encoding.{place_among}
use Rattle.register_form.specs.Form.{page_count, property_count, text_count, property_at, page_at, text_at, dictionary_in, register_in}
use Rattle.register_form.specs.Opened.{page_in}

-- space_in, name_in
module _ (h : Bytes) (x n : ℕ) (c : n ≡ text_count h) (r : Bytes) where
  here : x < n → text_in (dictionary_in h) x ≡ text_at h x
  unfolding dictionary_in
  here l = get_d_tabulate (text_count h) (text_at h) [] x (omega arith)

  past : n ≤ x → text_in (dictionary_in h) x ≡ []
  unfolding dictionary_in
  past l = get_or-eq_default (tabulate (text_count h) (text_at h)) [] (omega (arith, length_tabulate (text_count h) (text_at h)))

  pub space_here : x < n → r ≡ space_of (text_at h x) → r ≡ space_of (text_in (dictionary_in h) x)
  space_here l e = rw (here l) e

  pub space_past : n ≤ x → r ≡ part h 0 0 → r ≡ space_of (text_in (dictionary_in h) x)
  unfolding space_of
  space_past l e = rw (past l) e

  pub name_here : x < n → r ≡ name_of (text_at h x) → r ≡ name_of (text_in (dictionary_in h) x)
  name_here l e = rw (here l) e

  pub name_past : n ≤ x → r ≡ part h 0 0 → r ≡ name_of (text_in (dictionary_in h) x)
  unfolding name_of
  name_past l e = rw (past l) e

-- How many properties and pages the register has.
pub property_total : (h : Bytes) → length (register_in h).properties ≡ property_count h
unfolding register_in decode dictionary_in
property_total h = length-map (tabulate (property_count h) (property_at h)) (decode_property (dictionary_in h)) ∙ length_tabulate (property_count h) (property_at h)

pub page_total : (h : Bytes) → length (register_in h).pages ≡ page_count h
unfolding register_in decode dictionary_in
page_total h = length-map (tabulate (page_count h) (page_at h)) (decode_page (dictionary_in h)) ∙ length_tabulate (page_count h) (page_at h)

-- The property and the page in a place.
pub property_in_lem : (h : Bytes) (p : ℕ) (e : Property) → p < property_count h → get_or (register_in h).properties p e ≡ decode_property (dictionary_in h) (property_at h p)
unfolding register_in decode dictionary_in
property_in_lem h p e l =
    get_d_mapped (decode_property (dictionary_in h)) (tabulate (property_count h) (property_at h)) p (no_property (dictionary_in h)) e (omega (arith, length_tabulate (property_count h) (property_at h)))
    ∙ ap (decode_property (dictionary_in h)) (get_d_tabulate (property_count h) (property_at h) (no_property (dictionary_in h)) p l)

pub page_in_lem : (h : Bytes) (i : ℕ) → i < page_count h → page_in (register_in h) i ≡ decode_page (dictionary_in h) (page_at h i)
unfolding register_in decode dictionary_in page_in
page_in_lem h i l =
    get_d_mapped (decode_page (dictionary_in h)) (tabulate (page_count h) (page_at h)) i (page_at h i) (empty_page [] []) (omega (arith, length_tabulate (page_count h) (page_at h)))
    ∙ ap (decode_page (dictionary_in h)) (get_d_tabulate (page_count h) (page_at h) (page_at h i) i l)

-- Where a property stands: the first p are others.
pub record Passed (l : List Property) (x : Bytes) (p : ℕ) : Type 0 where
  pub most : p ≤ length l
  pub left : place_among l x ≡ p + place_among (drop p l) x

pub passed_none : (l : List Property) (x : Bytes) → Passed l x 0
passed_none l x = record { most = omega arith; left = sym (zero-add (place_among l x)) }

module _ (l : List Property) (x : Bytes) (p : ℕ) (a : Passed l x p) where
  pub passed_all : length l ≤ p → length l ≡ place_among l x
  unfolding place_among
  passed_all b = sym (a.left ∙ rw (drop_of_length-le l {i = p} b) (omega (arith, a.most)))

  module _ (b : p < length l) (q : Property) (at : get_or l p q ≡ q) where
    step : place_among l x ≡ p + cond (same q.name x) 0 (suc (place_among (drop (suc p) l) x))
    unfolding place_among
    step = a.left ∙ ap (λ (m : List Property). p + place_among m x) (drop-cons l p q b ∙ ap (λ (g : Property). g ∷ drop (suc p) l) at)

    pub passed_here : same q.name x ≡ true → p ≡ place_among l x
    passed_here e = sym (step ∙ rw (e, add-zero p))

    pub passed_more : same q.name x ≡ false → Passed l x (p + 1)
    passed_more e = record { most = omega arith; left = step ∙ rw (e, add-one p) (omega arith) }

-- property_place
module _ (h x : Bytes) (p n k : ℕ) (y : Bytes) (b : Bool) (c : n ≡ property_count h) (l : p < n) (a : Passed (register_in h).properties x p) (row : k ≡ (property_at h p).name) (name : y ≡ name_of (text_in (dictionary_in h) k)) (is : b ≡ same y x) where
  abbrev declared : Property
  declared = decode_property (dictionary_in h) (property_at h p)

  named : same declared.name x ≡ b
  unfolding decode_property
  named = sym (is ∙ ap (λ (z : Bytes). same z x) (name ∙ ap (λ (j : ℕ). name_of (text_in (dictionary_in h) j)) row))

  pub place_here : b ≡ true → p ≡ place_among (register_in h).properties x
  place_here e = passed_here (register_in h).properties x p a (omega (arith, property_total h)) declared (property_in_lem h p declared (omega arith)) (named ∙ e)

  pub place_more : b ≡ false → Passed (register_in h).properties x (p + 1)
  place_more e = passed_more (register_in h).properties x p a (omega (arith, property_total h)) declared (property_in_lem h p declared (omega arith)) (named ∙ e)

pub place_none : (h x : Bytes) (p n : ℕ) → n ≡ property_count h → n ≤ p → Passed (register_in h).properties x p → n ≡ place_among (register_in h).properties x
place_none h x p n c l a = c ∙ sym (property_total h) ∙ passed_all (register_in h).properties x p a (omega (arith, property_total h))

-- The kind of a property is that of its place.
kind_there : (l : List Property) (x : Bytes) (e : Property) → place_among l x < length l → kind_among l x ≡ Some (get_or l (place_among l x) e).kind
unfolding place_among kind_among
kind_there [] x e b = absurd (omega arith)
kind_there (p ∷ l) x e b = go (same p.name x) b (kind_there l x e)
  where
    go : (s : Bool) → cond s 0 (suc (place_among l x)) < suc (length l) → (place_among l x < length l → kind_among l x ≡ Some (get_or l (place_among l x) e).kind) → cond s (Some p.kind) (kind_among l x) ≡ Some (get_or (p ∷ l) (cond s 0 (suc (place_among l x))) e).kind
    go true b ih = refl
    go false b ih = ih (omega arith)

kind_absent : (l : List Property) (x : Bytes) → length l ≤ place_among l x → kind_among l x ≡ None
unfolding place_among kind_among
kind_absent [] x b = refl
kind_absent (p ∷ l) x b = go (same p.name x) b (kind_absent l x)
  where
    go : (s : Bool) → suc (length l) ≤ cond s 0 (suc (place_among l x)) → (length l ≤ place_among l x → kind_among l x ≡ None) → cond s (Some p.kind) (kind_among l x) ≡ None
    go true b ih = absurd (omega arith)
    go false b ih = ih (omega arith)

-- kind_of
module _ (h x : Bytes) (p n : ℕ) (at : p ≡ place_among (register_in h).properties x) (c : n ≡ property_count h) where
  pub kind_is : (k : Kind) → p < n → k ≡ (property_at h p).kind → (Some k) ≡ kinds_of (register_in h) x
  unfolding decode_property
  kind_is k l e =
      let d = decode_property (dictionary_in h) (property_at h p) in
      sym (kind_there (register_in h).properties x d (omega (arith, property_total h))
      ∙ ap (λ (j : ℕ). Some (get_or (register_in h).properties j d).kind) (sym at)
      ∙ ap (λ (q : Property). Some q.kind) (property_in_lem h p d (omega arith))
      ∙ ap Some (sym e))

  pub kind_none : n ≤ p → None ≡ kinds_of (register_in h) x
  kind_none l = sym (kind_absent (register_in h).properties x (omega (arith, property_total h)))

-- namespace_at, article_at
module _ (h : Bytes) (i n : ℕ) (c : n ≡ page_count h) (r : Bytes) where
  pub page_namespace : (k : ℕ) → i < n → k ≡ (page_at h i).identifier → r ≡ space_of (text_in (dictionary_in h) k) → r ≡ (page_in (register_in h) i).identifier.namespace
  unfolding decode_page
  page_namespace k l e f = f ∙ ap (λ (j : ℕ). space_of (text_in (dictionary_in h) j)) e ∙ sym (ap (λ (p : Page). p.identifier.namespace) (page_in_lem h i (omega arith)))

  pub page_article : (k : ℕ) → i < n → k ≡ (page_at h i).identifier → r ≡ name_of (text_in (dictionary_in h) k) → r ≡ (page_in (register_in h) i).identifier.article
  unfolding decode_page
  page_article k l e f = f ∙ ap (λ (j : ℕ). name_of (text_in (dictionary_in h) j)) e ∙ sym (ap (λ (p : Page). p.identifier.article) (page_in_lem h i (omega arith)))

  none_there : n ≤ i → page_in (register_in h) i ≡ empty_page [] []
  unfolding page_in
  none_there l = get_or-eq_default (register_in h).pages (empty_page [] []) (omega (arith, page_total h))

  pub no_namespace : n ≤ i → r ≡ part h 0 0 → r ≡ (page_in (register_in h) i).identifier.namespace
  no_namespace l e = e ∙ sym (ap (λ (p : Page). p.identifier.namespace) (none_there l))

  pub no_article : n ≤ i → r ≡ part h 0 0 → r ≡ (page_in (register_in h) i).identifier.article
  no_article l e = e ∙ sym (ap (λ (p : Page). p.identifier.article) (none_there l))

pub ruleset naming =
    (space_here, space_past, name_here, name_past, kind_is, kind_none, page_namespace, page_article, no_namespace, no_article)
