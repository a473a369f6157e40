-- The bytes of an opened register hold its dictionary.
use Rattle.register_form.proofs.Totals.{length_flat, total_most, total_same}
use Rattle.language.proofs.Rules.{Ruled, register_rules}
use Prim.Native.Nat.{ℕ, suc, ◌+◌, ◌*◌, ◌-◌, ◌/◌, ◌≤◌, ◌<◌}
use mathlib.Core.Path.{◌≡◌, refl, sym, ap, ◌∙◌, subst}
use mathlib.Core.Bool.{Bool, true, false}
use mathlib.Core.List.Memᴰ
use mathlib.Core.List.{List, [], ◌∷◌, ◌++◌, map, flat_map, append-nil, Memᴰ}
use native.Mathlib.Omega.{arith}
use lib.Dec.{eqb}
use lib.ListN.{length, get_or, length-append, length-map}
use borrow.Author.Tests.{eqb-true}
use Rattle.text.specs.Bytes.{Bytes, part, order_of, same}
use Rattle.std.specs.declared.cmp.Ordering.{Ordering}
use Rattle.std.specs.declared.cmp.Ordering.TheVariants.{Less, Equal, Greater}
use Rattle.text.proofs.Laws.{same_eq}
use Rattle.text.proofs.Tables.{length_tabulate, get_d_tabulate, tabulate_ext}
use Rattle.values.specs.Values.{scalar, string, Value, plain, link}
use Rattle.values.specs.Spelling.{spelling, spell_identifier}
use Rattle.language.specs.Register.{Property, Page, Register}
use Rattle.language.specs.RegisterText.{empty_page}
use Rattle.language.specs.Rules.{is_register, total, forms_on, bytes_on, bytes_in}
use Rattle.language.proofs.Members.{and_true, get_d_mapped}
use Rattle.sorting.specs.Ascending.{placed, insert_sorted, sorted, rank}
use Rattle.sorting.proofs.Orders.{bytes_total}
use Rattle.sorting.proofs.Ranks.{rank_most}
use Rattle.register_form.specs.Dictionary.{PropertyRow, PageRow, Dictionary, labelled}
use Rattle.register_form.specs.Encoding.{plain_text, identifier_text, value_texts, page_texts, texts_in, texts_of, category_term, value_term, page_terms, terms_of, encode_property, encode_page, encode}
use Rattle.register_form.specs.Form.{register_size, page_count, property_count, term_count, text_count, forms_of, joined, bytes_of, form_of, property_at, form_start, form_at, page_at, term_at, text_at, dictionary_in, register_in, is_form}
use Rattle.register_form.specs.Opened.{page_in, Opened}
use Rattle.register_form.specs.Tests.{Small, Bounded, term_uses}
use Rattle.register_form.proofs.Lists.{mem_at, of_flat, of_sorted}
use Rattle.register_form.proofs.Rules.{Limits, within, texts_few, terms_few, page_terms_lem}
use Rattle.register_form.proofs.Canonical.{TermFrom, term_from_lem}
use Rattle.register_form.proofs.Starts.{table_step, table_most}
use Rattle.register_form.proofs.Holding.{Holds, holds_bytes, length_bytes}
use Rattle.register_form.proofs.ReadBack.{form_start_lem, read_back_lem}
use Rattle.buffer.specs.Numbers.{two_at, starts_from}
use Rattle.buffer.proofs.Parts.{length_part, get_d_part, flat_map_lem}
use Rattle.register_form_view.specs.View.{form_bytes, numbers_in}

-- Sums over joined, mapped and sorted lists.
module _ {A B : Type 0} (f : B → ℕ) (g : A → B) where
  total_map : (l : List A) → total f (map g l) ≡ total (λ a. f (g a)) l
  unfolding total
  total_map [] = refl
  total_map (a ∷ l) = ap (λ (n : ℕ). f (g a) + n) (total_map l)

module _ {B : Type 0} (f : B → ℕ) where
  total_append : (l m : List B) → total f (l ++ m) ≡ total f l + total f m
  unfolding total
  total_append [] m = omega arith
  total_append (a ∷ l) m = omega (arith, total_append l m)

  total_flat : {A : Type 0} (g : A → List B) (l : List A) → total f (flat_map g l) ≡ total (λ a. total f (g a)) l
  unfolding total flat_map
  total_flat g [] = refl
  total_flat g (a ∷ l) = omega (arith, total_append (g a) (flat_map g l), total_flat g l)

total_sorted : (f : Bytes → ℕ) (l : List Bytes) → total f (sorted order_of l) ≤ total f l
unfolding total sorted insert_sorted
total_sorted f [] = omega arith
total_sorted f (x ∷ l) = omega (arith, total_insert (sorted order_of l), total_sorted f l)
  where
    total_insert : (m : List Bytes) → total f (insert_sorted order_of x m) ≤ f x + total f m
    total_insert [] = omega arith
    total_insert (y ∷ m) = go (order_of x y) (total_insert m)
      where
        go : (r : Ordering) → total f (insert_sorted order_of x m) ≤ f x + total f m → total f (placed r x y m (insert_sorted order_of x m)) ≤ f x + (f y + total f m)
        go Less ih = omega arith
        go Equal ih = omega arith
        go Greater ih = omega arith

-- The bytes of a text without its first, which tells its namespace.
abbrev short : Bytes → ℕ
short t = length t - 1

short_text : (n x : Bytes) → short (labelled n x) ≡ length n + length x
unfolding labelled
short_text n x = omega (arith, length-append n x)

short_plain : (x : Bytes) → short (plain_text x) ≡ length x
short_plain x = omega (arith, short_text [] x)

long_total : (l : List Bytes) → total length l ≤ length l + total short l
unfolding total
long_total [] = omega arith
long_total (x ∷ l) = omega (arith, long_total l)

value_short : (v : Value) → total short (value_texts v) ≤ length (spelling v)
unfolding total value_texts spelling spell_identifier
value_short (plain (scalar k c)) = omega arith
value_short (plain (string s)) = omega (arith, short_plain s)
value_short (link i) = omega (arith, short_text i.namespace i.article, spelled (eqb (length i.namespace) 0) refl)
  where
    spelled : (b : Bool) → eqb (length i.namespace) 0 ≡ b → length i.namespace + length i.article ≤ length (spell_identifier i)
    spelled true e = rw e (omega (arith, eqb-true (length i.namespace) 0 e))
    spelled false e = rw e (omega (arith, length-append i.namespace (58 ∷ i.article)))

page_short : (p : Page) → total short (page_texts p) ≤ bytes_on p
unfolding total page_texts
page_short p =
    omega (
      arith,
      short_text p.identifier.namespace p.identifier.article,
      total_append short (map plain_text p.categories) (flat_map (λ h. value_texts h.value) p.values),
      total_map short plain_text p.categories,
      total_same (λ x. short (plain_text x)) length p.categories short_plain,
      total_flat short (λ h. value_texts h.value) p.values,
      total_most (λ h. total short (value_texts h.value)) (λ h. length (spelling h.value)) p.values (λ h. value_short h.value),
    )

texts_short : (R : Register) → total short (texts_in R) ≤ bytes_in R
unfolding texts_in bytes_in
texts_short R =
    omega (
      arith,
      total_append short (map (λ p. plain_text p.name) R.properties) (flat_map page_texts R.pages),
      total_map short (λ p. plain_text p.name) R.properties,
      total_same (λ p. short (plain_text p.name)) (λ p. length p.name) R.properties (λ p. short_plain p.name),
      total_flat short page_texts R.pages,
      total_most (λ p. total short (page_texts p)) bytes_on R.pages page_short,
    )

small_mem : (l : List ℕ) → ((a : ℕ) → Memᴰ a l → a < 65536) → Small l
unfolding Small
small_mem l h i b = h (get_or l i 0) (mem_at l i 0 b)

-- The dictionary of a register fits its form.
module _ (R : Register) (w : Limits R) where
  number_fits_lem : (t : Bytes) → rank order_of t (texts_of R) < 65536
  number_fits_lem t = omega (arith, rank_most order_of bytes_total t (texts_of R), texts_few R w)

  form_fits : (t : Bytes) → rank order_of t (terms_of R) < 65536
  form_fits t = omega (arith, rank_most order_of bytes_total t (terms_of R), terms_few R w)

  bytes_fit : length (joined (texts_of R)) ≤ 35136
  unfolding texts_of
  bytes_fit = omega (arith, length_flat (λ t. t) (texts_of R), long_total (texts_of R), texts_few R w, total_sorted short (texts_in R), texts_short R, w.bytes)

  uses_fit : length (term_uses (encode R)) ≤ 2048
  unfolding encode encode_page
  uses_fit =
      omega (
        arith,
        length_flat forms_of (map (encode_page R) R.pages),
        total_map (λ r. length (forms_of r)) (encode_page R) R.pages,
        total_same (λ p. length (forms_of (encode_page R p))) forms_on R.pages each,
        w.forms,
      )
    where
      each : (p : Page) → length (encode_page R p).forms ≡ forms_on p
      each p = length-map (page_terms R p) (λ t. rank order_of t (terms_of R)) ∙ page_terms_lem R p

  term_sized : {p : Page} {t : Bytes} → TermFrom R p t → length t ≡ 9
  unfolding category_term value_term
  term_sized (TermFrom.category n e) = ap length e
  term_sized (TermFrom.value n e) = ap length e

  names_small : (a : ℕ) → Memᴰ a (map (λ p. p.name) (encode R).properties) → a < 65536
  unfolding encode encode_property
  names_small a m =
      let q = Memᴰ.of_map (λ p. p.name) (map (encode_property R) R.properties) m in
      let r = Memᴰ.of_map (encode_property R) R.properties q.1 in
      subst (λ (n : ℕ). n < 65536) (ap (λ (p : PropertyRow). p.name) r.2 ∙ q.2) (number_fits_lem (plain_text r.0.name))

  identifiers_small : (a : ℕ) → Memᴰ a (map (λ p. p.identifier) (encode R).pages) → a < 65536
  unfolding encode encode_page
  identifiers_small a m =
      let q = Memᴰ.of_map (λ p. p.identifier) (map (encode_page R) R.pages) m in
      let r = Memᴰ.of_map (encode_page R) R.pages q.1 in
      subst (λ (n : ℕ). n < 65536) (ap (λ (p : PageRow). p.identifier) r.2 ∙ q.2) (number_fits_lem (identifier_text r.0.identifier))

  uses_small : (a : ℕ) → Memᴰ a (term_uses (encode R)) → a < 65536
  unfolding encode encode_page
  uses_small a m =
      let q = of_flat forms_of (map (encode_page R) R.pages) m in
      let r = Memᴰ.of_map (encode_page R) R.pages q.1 in
      let s = Memᴰ.of_map (λ t. rank order_of t (terms_of R)) (page_terms R r.0) (subst (λ (p : PageRow). Memᴰ a p.forms) (sym r.2) q.2) in
      subst (λ (n : ℕ). n < 65536) s.2 (form_fits s.0)

  pub bounded : Bounded (encode R)
  unfolding encode terms_of
  bounded =
      record {
        properties = omega (arith, length-map R.properties (encode_property R), w.properties);
        pages = omega (arith, length-map R.pages (encode_page R), w.pages);
        terms = terms_few R w;
        texts = texts_few R w;
        forms = uses_fit;
        bytes = bytes_fit;
        names = small_mem (map (λ p. p.name) (encode R).properties) names_small;
        identifiers = small_mem (map (λ p. p.identifier) (encode R).pages) identifiers_small;
        uses = small_mem (term_uses (encode R)) uses_small;
        sized = λ i b.
            let r = of_flat (page_terms R) R.pages (of_sorted (flat_map (page_terms R) R.pages) (mem_at (terms_of R) i [] b)) in
            term_sized (term_from_lem R r.0 r.2);
      }

-- What is known of opened bytes.
pub record Known (h : Bytes) (R : Register) : Type 0 where
  pub bytes : h ≡ bytes_of (encode R)
  pub is : dictionary_in h ≡ encode R
  pub keeps : Ruled R
  pub limits : Limits R

pub known : {h : Bytes} {places : List ℕ} {R : Register} → Opened h places R → Known h R
unfolding is_form form_of
known {h} {places} {R} o =
    let t = and_true (is_register (register_in h)) (same h (form_of (register_in h))) o.form in
    let k = register_rules R (subst (λ (S : Register). is_register S ≡ true) o.register t.0) in
    let w = within R k.limits in
    let e : h ≡ bytes_of (encode R) = same_eq h (form_of (register_in h)) t.1 ∙ ap form_of o.register in
    record { bytes = e; is = ap dictionary_in (e ∙ sym (append-nil (bytes_of (encode R)))) ∙ read_back_lem (encode R) [] (bounded R w); keeps = k; limits = w }

-- The rows of opened bytes.
module _ {h : Bytes} {R : Register} (k : Known h R) where
  pub count_pages : page_count h ≡ length R.pages
  unfolding dictionary_in encode
  count_pages = sym (length_tabulate (page_count h) (page_at h)) ∙ ap (λ (d : Dictionary). length d.pages) k.is ∙ length-map R.pages (encode_page R)

  count_properties : property_count h ≡ length R.properties
  unfolding dictionary_in encode
  count_properties = sym (length_tabulate (property_count h) (property_at h)) ∙ ap (λ (d : Dictionary). length d.properties) k.is ∙ length-map R.properties (encode_property R)

  pub page_row : (i : ℕ) → i < length R.pages → page_at h i ≡ encode_page R (page_in R i)
  unfolding dictionary_in encode page_in
  page_row i b =
      sym (get_d_tabulate (page_count h) (page_at h) (page_at h i) i (omega (arith, count_pages)))
      ∙ ap (λ (d : Dictionary). get_or d.pages i (page_at h i)) k.is
      ∙ get_d_mapped (encode_page R) R.pages i (empty_page [] []) (page_at h i) b

  pub property_row : (p : ℕ) (e : Property) → p < length R.properties → property_at h p ≡ encode_property R (get_or R.properties p e)
  unfolding dictionary_in encode
  property_row p e b =
      sym (get_d_tabulate (property_count h) (property_at h) (property_at h p) p (omega (arith, count_properties)))
      ∙ ap (λ (d : Dictionary). get_or d.properties p (property_at h p)) k.is
      ∙ get_d_mapped (encode_property R) R.properties p e (property_at h p) b

  pub terms_are : (dictionary_in h).terms ≡ terms_of R
  unfolding encode
  terms_are = ap (λ (d : Dictionary). d.terms) k.is

  pub texts_are : (dictionary_in h).texts ≡ texts_of R
  unfolding encode
  texts_are = ap (λ (d : Dictionary). d.texts) k.is

  pub term_row : (f : ℕ) → f < length (terms_of R) → term_at h f ≡ get_or (terms_of R) f []
  unfolding dictionary_in
  term_row f b =
      sym (get_d_tabulate (term_count h) (term_at h) [] f (omega (arith, ap length terms_are, length_tabulate (term_count h) (term_at h))))
      ∙ ap (λ (l : List Bytes). get_or l f []) terms_are

  pub text_row : (x : ℕ) → x < length (texts_of R) → text_at h x ≡ get_or (texts_of R) x []
  unfolding dictionary_in
  text_row x b =
      sym (get_d_tabulate (text_count h) (text_at h) [] x (omega (arith, ap length texts_are, length_tabulate (text_count h) (text_at h))))
      ∙ ap (λ (l : List Bytes). get_or l x []) texts_are

  -- where the forms of a page lie
  starts_there : (i : ℕ) → i < suc (length (map forms_of (encode R).pages)) → form_start h i ≡ get_or (starts_from 0 (map forms_of (encode R).pages)) i 0
  starts_there =
      form_start_lem h (encode R)
      (subst (λ (b : Bytes). Holds b (encode R)) (append-nil (bytes_of (encode R)) ∙ sym k.bytes) (holds_bytes (encode R) [] (bounded R k.limits)))
      (bounded R k.limits)

  -- the numbers in their bytes are its forms
  pub forms_there : (i : ℕ) → i < length R.pages → numbers_in (form_bytes h (form_start h i) (form_start h (suc i))) ≡ (page_at h i).forms
  unfolding numbers_in form_bytes page_at form_at two_at encode
  forms_there i b =
      let l = map forms_of (encode R).pages in
      let s = form_start h i in
      let c = form_start h (suc i) - form_start h i in
      let inside : i < length l = rw (length-map, length-map) b in
      let step = table_step (form_start h) l starts_there i inside in
      let most = table_most (form_start h) l starts_there i inside in
      let few : length (joined l) ≤ 2048 = rw (flat_map_lem forms_of (encode R).pages) (bounded R k.limits).forms in
      let size : length h ≡ register_size = ap length k.bytes ∙ length_bytes (encode R) (bounded R k.limits) in
      let half : length (part h (1226 + 2 * s) (2 * c)) / 2 ≡ c = omega (arith, length_part h (1226 + 2 * s) (2 * c) (omega (arith, size))) in
      rw half
      (tabulate_ext c _ _ (λ j m.
      let a : 1226 + 2 * s + 2 * j ≡ 1226 + 2 * (s + j) = omega arith in
      let d : 1226 + 2 * s + (2 * j + 1) ≡ 1226 + 2 * (s + j) + 1 = omega arith in
      rw (get_d_part h (1226 + 2 * s) (2 * c) (2 * j) (omega arith), get_d_part h (1226 + 2 * s) (2 * c) (2 * j + 1) (omega arith), a, d)))
