-- The dictionary of a register fits the form.
use Prim.Native.Nat.{ℕ, suc, ◌+◌, ◌≤◌, ◌<◌}
use mathlib.Core.Path.{◌≡◌, refl, ap, ◌∙◌}
use mathlib.Core.Bool.{Bool, true, false, cond}
use mathlib.Core.List.Memᴰ
use mathlib.Core.List.{List, [], ◌∷◌, ◌++◌, map, flat_map, Memᴰ}
use native.Mathlib.Omega.{arith}
use lib.Dec.{eqb}
use lib.ListN.{length, get_or, length-append, length-map}
use borrow.Author.Tests.{eqb-true}
use Rattle.text.specs.Bytes.{Bytes, order_of}
use Rattle.values.specs.Names.{Identifier}
use Rattle.values.specs.Values.{scalar, string, Value, plain, link}
use Rattle.values.specs.Spelling.{spell_identifier, spelling}
use Rattle.language.specs.Register.{Held, Page, Register}
use Rattle.language.specs.Rules.{total, forms_on, bytes_on, bytes_in, is_register}
use Rattle.language.proofs.Adding.{total_append}
use Rattle.language.proofs.Members.{all_at}
use Rattle.language.proofs.Rules.{register_rules}
use Rattle.sorting.specs.Ascending.{sorted, rank}
use Rattle.register_form.specs.Dictionary.{Dictionary, labelled}
use Rattle.register_form.specs.Encoding.{plain_text, value_texts, page_texts, texts_in, texts_of, category_term, value_term, page_terms, terms_of, encode_property, encode_page, encode}
use Rattle.register_form.specs.Form.{forms_of, joined}
use Rattle.register_form.specs.Tests.{is_plain_number, term_uses, Small, Bounded}
use Rattle.register_form.proofs.Totals.{total_most, total_same, total_suc, total_both, total_mapped, total_flat, length_flat, total_sorted}
use Rattle.register_form.proofs.Lists.{mem_at, of_flat, of_sorted}
use Rattle.register_form.proofs.Rules.{Limits, within, texts_few, page_terms_lem, terms_few}
use Rattle.register_form.proofs.Canonical.{TermFrom, term_from_lem, canonical}
use Rattle.register_form.proofs.Described.{Canon, canon, plain_below, page_below, form_below}

-- The bytes of texts: each text is one byte, and a name with its namespace, which a register counts wherever it occurs.
length_labelled : (n x : Bytes) → length (labelled n x) ≡ suc (length n + length x)
unfolding labelled
length_labelled n x = ap suc (length-append n x)

length_spelled : (i : Identifier) → length i.namespace + length i.article ≤ length (spell_identifier i)
unfolding spell_identifier
length_spelled i = go (eqb (length i.namespace) 0) refl
  where
    go : (b : Bool) → eqb (length i.namespace) 0 ≡ b → length i.namespace + length i.article ≤ length (cond b i.article (i.namespace ++ (58 ∷ i.article)))
    go true e = omega (arith, eqb-true (length i.namespace) 0 e)
    go false e = omega (arith, length-append i.namespace (58 ∷ i.article))

value_bytes_lem : (v : Value) → total length (value_texts v) ≤ suc (length (spelling v))
unfolding value_texts spelling total
value_bytes_lem (plain (scalar k c)) = omega arith
value_bytes_lem (plain (string s)) = omega (arith, length_labelled [] s)
value_bytes_lem (link i) = omega (arith, length_labelled i.namespace i.article, length_spelled i)

plain_bytes : {A : Type 0} (f : A → Bytes) (l : List A) → total length (map (λ a. plain_text (f a)) l) ≡ length l + total (λ a. length (f a)) l
plain_bytes f l =
    total_mapped length (λ a. plain_text (f a)) l
    ∙ total_same (λ a. length (plain_text (f a))) (λ a. suc (length (f a))) l (λ a. omega (arith, length_labelled [] (f a)))
    ∙ total_suc (λ a. length (f a)) l

values_bytes : (l : List Held) → total length (flat_map (λ h. value_texts h.value) l) ≤ length l + total (λ h. length (spelling h.value)) l
values_bytes l =
    omega (
      arith,
      total_flat length (λ (h : Held). value_texts h.value) l,
      total_most (λ h. total length (value_texts h.value)) (λ h. suc (length (spelling h.value))) l (λ h. value_bytes_lem h.value),
      total_suc (λ h. length (spelling h.value)) l,
    )

page_bytes : (p : Page) → total length (page_texts p) ≤ suc (forms_on p) + bytes_on p
unfolding page_texts total
page_bytes p =
    omega (
      arith,
      length_labelled p.identifier.namespace p.identifier.article,
      total_append length (map plain_text p.categories) (flat_map (λ h. value_texts h.value) p.values),
      plain_bytes (λ x. x) p.categories,
      values_bytes p.values,
    )

texts_bytes : (R : Register) → total length (texts_in R) ≤ bytes_in R + length R.properties + length R.pages + total forms_on R.pages
unfolding texts_in bytes_in
texts_bytes R =
    omega (
      arith,
      total_append length (map (λ p. plain_text p.name) R.properties) (flat_map page_texts R.pages),
      plain_bytes (λ p. p.name) R.properties,
      total_flat length page_texts R.pages,
      total_most (λ p. total length (page_texts p)) (λ p. suc (forms_on p) + bytes_on p) R.pages page_bytes,
      total_both (λ p. suc (forms_on p)) bytes_on R.pages,
      total_suc forms_on R.pages,
    )

bytes_few : (R : Register) → Limits R → length (joined (texts_of R)) ≤ 35136
unfolding texts_of
bytes_few R w =
    let a = w.properties in
    let b = w.pages in
    let f = w.forms in
    let n = w.bytes in
    omega (arith, length_flat (λ t. t) (sorted order_of (texts_in R)), total_sorted length (texts_in R), texts_bytes R)

-- The forms of a register.
page_forms : (R : Register) (p : Page) → length (encode_page R p).forms ≡ forms_on p
unfolding encode_page
page_forms R p = length-map (page_terms R p) (λ t. rank order_of t (terms_of R)) ∙ page_terms_lem R p

forms_few : (R : Register) → Limits R → length (term_uses (encode R)) ≤ 2048
unfolding encode
forms_few R w =
    let f = w.forms in
    omega (
      arith,
      length_flat forms_of (map (encode_page R) R.pages),
      total_mapped (λ r. length (forms_of r)) (encode_page R) R.pages,
      total_same (λ p. length (encode_page R p).forms) forms_on R.pages (page_forms R),
    )

-- Terms have nine bytes.
from_sized : (R : Register) {p : Page} {t : Bytes} → TermFrom R p t → length t ≡ 9
unfolding category_term value_term
from_sized R (TermFrom.category n e) = ap length e
from_sized R (TermFrom.value n e) = ap length e

term_sized : (R : Register) (i : ℕ) → i < length (terms_of R) → length (get_or (terms_of R) i []) ≡ 9
unfolding terms_of
term_sized R i b =
    let r = of_flat (page_terms R) R.pages (of_sorted (flat_map (page_terms R) R.pages) (mem_at (terms_of R) i [] b)) in
    from_sized R (term_from_lem R r.0 r.2)

-- The numbers of a canonical dictionary are those of its texts and terms.
small : (l : List ℕ) → ((a : ℕ) → Memᴰ a l → a < 65536) → Small l
unfolding Small
small l h i b = h (get_or l i 0) (mem_at l i 0 b)

module _ (d : Dictionary) (c : Canon d) where
  names_small : length d.texts ≤ 2368 → Small (map (λ p. p.name) d.properties)
  names_small b =
      small (map (λ p. p.name) d.properties)
      (λ a m.
      let q = Memᴰ.of_map (λ p. p.name) d.properties m in
      let e = q.2 in
      omega (arith, plain_below d q.0.name (all_at (λ p. is_plain_number d p.name) c.names q.1)))

  identifiers_small : length d.texts ≤ 2368 → Small (map (λ p. p.identifier) d.pages)
  identifiers_small b =
      small (map (λ p. p.identifier) d.pages)
      (λ a m. let q = Memᴰ.of_map (λ p. p.identifier) d.pages m in let e = q.2 in omega (arith, page_below d c q.1))

  uses_small : length d.terms ≤ 2048 → Small (term_uses d)
  uses_small b = small (term_uses d) (λ a m. let q = of_flat forms_of d.pages m in omega (arith, form_below d c q.1 q.2))

pub bounded : (R : Register) → is_register R ≡ true → Bounded (encode R)
unfolding encode
bounded R h =
    let k = register_rules R h in
    let w = within R k.limits in
    let c = canon (encode R) (canonical R k w) in
    let ps = w.properties in
    let gs = w.pages in
    record {
      properties = omega (arith, length-map R.properties (encode_property R));
      pages = omega (arith, length-map R.pages (encode_page R));
      terms = terms_few R w;
      texts = texts_few R w;
      forms = forms_few R w;
      bytes = bytes_few R w;
      names = names_small (encode R) c (texts_few R w);
      identifiers = identifiers_small (encode R) c (texts_few R w);
      uses = uses_small (encode R) c (terms_few R w);
      sized = term_sized R;
    }
