-- The parts of what makes a register, and the bounds that they give.
use Rattle.std.specs.Prelude.{Some}
use Prim.Native.Nat.{suc, ◌≤◌, ◌<◌}
use mathlib.Core.Path.{◌≡◌, refl, ◌∙◌}
use mathlib.Core.Bool.{Bool, true, false, cond, false≢true}
use mathlib.Core.List.{List, [], ◌∷◌, map, flat_map, Memᴰ}
use native.Mathlib.Omega.{arith}
use lib.Dec.{leb}
use lib.ListN.{length, get_or, length-append, length-map}
use borrow.Author.Tests.{leb-true}
use Rattle.text.specs.Bytes.{Bytes, same, all}
use Rattle.text.proofs.Laws.{same_eq}
use Rattle.values.specs.declared.Kind.{Kind}
use Rattle.values.specs.Values.{scalar, string, Value, plain, link, kind_of}
use Rattle.language.specs.Register.{Property, Held, Page, Register, kind_among, kinds_of, has_kind, kinds_hold}
use Rattle.language.specs.Rules.{is_storable, is_page, total, forms_on, bytes_in, is_within_limits}
use Rattle.language.proofs.Members.{all_at}
use Rattle.language.proofs.Rules.{Ruled, page_rules}
use Rattle.values.proofs.Sameness.{kind_eq}
use Rattle.register_form.proofs.Truths.{each}
use Rattle.register_form.proofs.Totals.{total_most, total_same, total_suc, length_flat, length_sorted}
use Rattle.register_form.specs.Encoding.{plain_text, value_texts, page_texts, texts_in, texts_of, place_among, category_term, value_term, page_terms, terms_of}

pub record Limits (R : Register) : Type 0 where
  pub properties : length R.properties ≤ 64
  pub pages : length R.pages ≤ 256
  pub forms : total forms_on R.pages ≤ 2048
  pub bytes : bytes_in R ≤ 32768

pub within : (R : Register) → is_within_limits R ≡ true → Limits R
unfolding is_within_limits
within R h =
    let k = each (leb (length R.properties) 64) (leb (length R.pages) 256 ∷ leb (total forms_on R.pages) 2048 ∷ leb (bytes_in R) 32768 ∷ []) h in
    record {
      properties = leb-true (length R.properties) 64 (k 0);
      pages = leb-true (length R.pages) 256 (k 1);
      forms = leb-true (total forms_on R.pages) 2048 (k 2);
      bytes = leb-true (bytes_in R) 32768 (k 3);
    }

-- A value of a page: it keeps its rule, and its property is declared with its kind.
pub value_kept : (R : Register) → Ruled R → {p : Page} → Memᴰ p R.pages → {h : Held} → Memᴰ h p.values → is_storable h.value ≡ true
value_kept R k {p} m {h} n = all_at (λ h. is_storable h.value) (page_rules p (all_at is_page k.pages m)).values n

pub value_kind : (R : Register) → Ruled R → {p : Page} → Memᴰ p R.pages → {h : Held} → Memᴰ h p.values → has_kind (kinds_of R h.property) (kind_of h.value) ≡ true
unfolding kinds_hold
value_kind R k {p} m {h} n =
    all_at (λ h. has_kind (kinds_of R h.property) (kind_of h.value)) (all_at (λ page. all (λ h. has_kind (kinds_of R h.property) (kind_of h.value)) page.values) k.kinds m) n

-- What is read where no property stands.
pub undeclared : Property
undeclared = record { name = []; kind = Kind.Page }

-- A declared property stands in its place.
pub place_known : (l : List Property) (x : Bytes) (k : Kind) (d : Property) → has_kind (kind_among l x) k ≡ true → (place_among l x < length l) × ((get_or l (place_among l x) d).name ≡ x) × ((get_or l (place_among l x) d).kind ≡ k)
unfolding kind_among place_among
place_known [] x k d h = absurd (false≢true h)
place_known (p ∷ l) x k d h = go (same p.name x) refl h (place_known l x k d)
  where
    go : (b : Bool) → same p.name x ≡ b → has_kind (cond b (Some p.kind) (kind_among l x)) k ≡ true → (has_kind (kind_among l x) k ≡ true → (place_among l x < length l) × ((get_or l (place_among l x) d).name ≡ x) × ((get_or l (place_among l x) d).kind ≡ k)) → (cond b 0 (suc (place_among l x)) < length (p ∷ l)) × ((get_or (p ∷ l) (cond b 0 (suc (place_among l x))) d).name ≡ x) × ((get_or (p ∷ l) (cond b 0 (suc (place_among l x))) d).kind ≡ k)
    go true e i ih = (omega arith, same_eq p.name x e, kind_eq p.kind k i)
    go false e i ih = let r = ih i in let n = r.0 in (omega arith, r.1, r.2)

-- How long the lists are.
values_few : (l : List Held) → length (flat_map (λ h. value_texts h.value) l) ≤ length l
unfolding flat_map value_texts
values_few [] = omega arith
values_few (h ∷ l) = omega (arith, length-append (value_texts h.value) (flat_map (λ h. value_texts h.value) l), one h.value, values_few l)
  where
    one : (v : Value) → length (value_texts v) ≤ 1
    one (plain (scalar k c)) = omega arith
    one (plain (string s)) = omega arith
    one (link i) = omega arith

page_few : (p : Page) → length (page_texts p) ≤ suc (forms_on p)
unfolding page_texts
page_few p =
    omega (arith, length-append (map plain_text p.categories) (flat_map (λ h. value_texts h.value) p.values), length-map p.categories plain_text, values_few p.values)

pub texts_few : (R : Register) → Limits R → length (texts_of R) ≤ 2368
unfolding texts_of texts_in
texts_few R w =
    let n = w.properties in
    let m = w.pages in
    let f = w.forms in
    omega (
      arith,
      length_sorted (texts_in R),
      length-append (map (λ p. plain_text p.name) R.properties) (flat_map page_texts R.pages),
      length-map R.properties (λ p. plain_text p.name),
      length_flat page_texts R.pages,
      total_most (λ p. length (page_texts p)) (λ p. suc (forms_on p)) R.pages page_few,
      total_suc forms_on R.pages,
    )

pub page_terms_lem : (R : Register) (p : Page) → length (page_terms R p) ≡ forms_on p
unfolding page_terms
page_terms_lem R p = length-append (map (category_term R) p.categories) (map (value_term R) p.values) ∙ omega (arith, length-map p.categories (category_term R), length-map p.values (value_term R))

pub terms_few : (R : Register) → Limits R → length (terms_of R) ≤ 2048
unfolding terms_of
terms_few R w =
    let f = w.forms in
    omega (
      arith,
      length_sorted (flat_map (page_terms R) R.pages),
      length_flat (page_terms R) R.pages,
      total_same (λ p. length (page_terms R p)) forms_on R.pages (page_terms_lem R),
    )
