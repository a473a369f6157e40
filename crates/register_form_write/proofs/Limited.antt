-- The dictionary of a register that is within the limits fits the form.
use Rattle.register_form.proofs.Totals.{length_flat, total_most, total_same, total_suc}
use Prim.Native.Nat.{ℕ, suc, ◌+◌, ◌≤◌, ◌<◌}
use mathlib.Core.Path.{◌≡◌, refl, sym, ap, ◌∙◌, subst}
use mathlib.Core.Bool.{Bool, true, false, cond}
use mathlib.Core.List.Memᴰ
use mathlib.Core.List.{List, [], ◌∷◌, ◌++◌, map, flat_map, map-map, Memᴰ}
use native.Mathlib.Omega.{arith}
use lib.Dec.{eqb}
use lib.ListN.{length, get_or, length-append, length-map}
use borrow.Author.Tests.{eqb-true}
use Rattle.text.specs.Bytes.{Bytes, order_of}
use Rattle.std.specs.declared.cmp.Ordering.{Ordering}
use Rattle.std.specs.declared.cmp.Ordering.TheVariants.{Less, Equal, Greater}
use Rattle.values.specs.Names.{Identifier}
use Rattle.values.specs.Values.{scalar, string, Value, plain, link}
use Rattle.values.specs.Spelling.{spelling, spell_identifier}
use Rattle.language.specs.Register.{Held, Page, Register}
use Rattle.language.specs.Rules.{total, forms_on, bytes_on, bytes_in}
use Rattle.sorting.specs.Ascending.{placed, insert_sorted, sorted, rank}
use Rattle.sorting.proofs.Ranks.{rank_most}
use Rattle.sorting.proofs.Orders.{bytes_total}
use Rattle.register_form.specs.Dictionary.{PageRow, labelled, term_in}
use Rattle.register_form.specs.Encoding.{plain_text, identifier_text, value_texts, page_texts, texts_in, texts_of, category_term, value_term, page_terms, terms_of, encode_property, encode_page, encode}
use Rattle.register_form.specs.Form.{forms_of, joined}
use Rattle.register_form.specs.Tests.{term_uses, Small, Bounded}
use Rattle.register_form.proofs.Lists.{mem_at, of_flat, of_sorted}
use Rattle.register_form.proofs.Canonical.{TermFrom, term_from_lem}
use Rattle.register_form.proofs.Rules.{Limits, texts_few, terms_few, page_terms_lem}

-- Sums.
total_append : {A : Type 0} (f : A → ℕ) (l m : List A) → total f (l ++ m) ≡ total f l + total f m
unfolding total
total_append f [] m = omega arith
total_append f (x ∷ l) m = omega (arith, total_append f l m)

total_map : {A B : Type 0} (f : B → ℕ) (g : A → B) (l : List A) → total f (map g l) ≡ total (λ a. f (g a)) l
unfolding total
total_map f g [] = refl
total_map f g (x ∷ l) = omega (arith, total_map f g l)

total_flat : {A B : Type 0} (f : B → ℕ) (g : A → List B) (l : List A) → total f (flat_map g l) ≡ total (λ a. total f (g a)) l
unfolding total flat_map
total_flat f g [] = refl
total_flat f g (x ∷ l) = omega (arith, total_append f (g x) (flat_map g l), total_flat f g l)

total_plus : {A : Type 0} (f g : A → ℕ) (l : List A) → total (λ a. f a + g a) l ≡ total f l + total g l
unfolding total
total_plus f g [] = refl
total_plus f g (x ∷ l) = omega (arith, total_plus f g l)

-- Sorting leaves out repeats.
total_sorted : (f : Bytes → ℕ) (m : List Bytes) → total f (sorted order_of m) ≤ total f m
unfolding sorted insert_sorted total
total_sorted f [] = omega arith
total_sorted f (x ∷ m) = omega (arith, insert (sorted order_of m), total_sorted f m)
  where
    insert : (l : List Bytes) → total f (insert_sorted order_of x l) ≤ f x + total f l
    insert [] = omega arith
    insert (y ∷ l) = go (order_of x y) (insert l)
      where
        go : (r : Ordering) → total f (insert_sorted order_of x l) ≤ f x + total f l → total f (placed r x y l (insert_sorted order_of x l)) ≤ f x + (f y + total f l)
        go Less ih = omega arith
        go Equal ih = omega arith
        go Greater ih = omega arith

-- The bytes of texts: one more than what is counted of each.
plain_size : (x : Bytes) → length (plain_text x) ≡ suc (length x)
unfolding labelled
plain_size x = refl

identifier_size : (i : Identifier) → length (identifier_text i) ≡ suc (length i.namespace + length i.article)
unfolding labelled
identifier_size i = ap suc (length-append i.namespace i.article)

spelled_size : (i : Identifier) → length i.namespace + length i.article ≤ length (spell_identifier i)
unfolding spell_identifier
spelled_size i = go (eqb (length i.namespace) 0) refl
  where
    go : (b : Bool) → eqb (length i.namespace) 0 ≡ b → length i.namespace + length i.article ≤ length (cond b i.article (i.namespace ++ (58 ∷ i.article)))
    go true e = omega (arith, eqb-true (length i.namespace) 0 e)
    go false e = omega (arith, length-append i.namespace (58 ∷ i.article))

value_size : (v : Value) → total length (value_texts v) ≤ suc (length (spelling v))
unfolding value_texts spelling total
value_size (plain (scalar k c)) = omega arith
value_size (plain (string s)) = omega (arith, plain_size s)
value_size (link i) = omega (arith, identifier_size i, spelled_size i)

page_size : (p : Page) → total length (page_texts p) ≤ suc (forms_on p) + bytes_on p
unfolding page_texts total
page_size p =
    omega (
      arith,
      identifier_size p.identifier,
      total_append length (map plain_text p.categories) (flat_map (λ h. value_texts h.value) p.values),
      total_map length plain_text p.categories,
      total_same (λ x. length (plain_text x)) (λ x. suc (length x)) p.categories plain_size,
      total_suc length p.categories,
      total_flat length (λ h. value_texts h.value) p.values,
      total_most (λ h. total length (value_texts h.value)) (λ h. suc (length (spelling h.value))) p.values (λ h. value_size h.value),
      total_suc (λ h. length (spelling h.value)) p.values,
    )

category_nine : (R : Register) (x : Bytes) → length (category_term R x) ≡ 9
unfolding category_term
category_nine R x = refl

value_nine : (R : Register) (h : Held) → length (value_term R h) ≡ 9
unfolding value_term
value_nine R h = refl

module _ (R : Register) (w : Limits R) where
  texts_short : length (joined (texts_of R)) ≤ 35136
  unfolding texts_of texts_in bytes_in
  texts_short =
      let n = w.properties in
      let g = w.pages in
      let f = w.forms in
      let b = w.bytes in
      omega (
        arith,
        length_flat (λ (t : Bytes). t) (sorted order_of (texts_in R)),
        total_sorted length (texts_in R),
        total_append length (map (λ p. plain_text p.name) R.properties) (flat_map page_texts R.pages),
        total_map length (λ p. plain_text p.name) R.properties,
        total_same (λ p. length (plain_text p.name)) (λ p. suc (length p.name)) R.properties (λ p. plain_size p.name),
        total_suc (λ p. length p.name) R.properties,
        total_flat length page_texts R.pages,
        total_most (λ p. total length (page_texts p)) (λ p. suc (forms_on p) + bytes_on p) R.pages page_size,
        total_plus (λ p. suc (forms_on p)) bytes_on R.pages,
        total_suc forms_on R.pages,
      )

  uses_few : length (term_uses (encode R)) ≤ 2048
  unfolding encode encode_page
  uses_few =
      let f = w.forms in
      omega (
        arith,
        length_flat forms_of (map (encode_page R) R.pages),
        total_map (λ r. length (forms_of r)) (encode_page R) R.pages,
        total_same (λ p. length (forms_of (encode_page R p))) forms_on R.pages (λ p. length-map (page_terms R p) (λ t. rank order_of t (terms_of R)) ∙ page_terms_lem R p),
      )

  -- Every number is a rank, and every term has nine bytes.
  rank_small : (l : List Bytes) → length l ≤ 2368 → (t : Bytes) → rank order_of t l < 65536
  rank_small l b t = omega (arith, rank_most order_of bytes_total t l)

  small_list : {A : Type 0} (f : A → ℕ) (l : List A) → ((a : A) → f a < 65536) → Small (map f l)
  unfolding Small
  small_list f l s i b =
      let m = Memᴰ.of_map f l (mem_at (map f l) i 0 b) in
      rw (sym m.2) (s m.0)

  term_size : (t : Bytes) → Memᴰ t (terms_of R) → length t ≡ 9
  unfolding terms_of
  term_size t m =
      let q = of_flat (page_terms R) R.pages (of_sorted (flat_map (page_terms R) R.pages) m) in
      nine q.0 (term_from_lem R q.0 q.2)
    where
      nine : (p : Page) → TermFrom R p t → length t ≡ 9
      nine p (TermFrom.category {x = x} n e) = ap length e ∙ category_nine R x
      nine p (TermFrom.value {h = h} n e) = ap length e ∙ value_nine R h

  uses_small : Small (term_uses (encode R))
  unfolding Small encode encode_page
  uses_small i b =
      let m = of_flat forms_of (map (encode_page R) R.pages) (mem_at (term_uses (encode R)) i 0 b) in
      let p = Memᴰ.of_map (encode_page R) R.pages m.1 in
      let q = Memᴰ.of_map (λ t. rank order_of t (terms_of R)) (page_terms R p.0) (subst (λ (r : PageRow). Memᴰ (get_or (term_uses (encode R)) i 0) (forms_of r)) (sym p.2) m.2) in
      omega (arith, q.2, rank_small (terms_of R) (omega (arith, terms_few R w)) q.0)

  pub bounded_encoded : Bounded (encode R)
  unfolding encode encode_property encode_page
  bounded_encoded =
      record {
        properties = rw (length-map R.properties (encode_property R)) w.properties;
        pages = rw (length-map R.pages (encode_page R)) w.pages;
        terms = terms_few R w;
        texts = texts_few R w;
        forms = uses_few;
        bytes = texts_short;
        names = rw (map-map (λ p. p.name) (encode_property R) R.properties) (small_list (λ p. (encode_property R p).name) R.properties (λ p. rank_small (texts_of R) (texts_few R w) (plain_text p.name)));
        identifiers = rw (map-map (λ p. p.identifier) (encode_page R) R.pages) (small_list (λ p. (encode_page R p).identifier) R.pages (λ p. rank_small (texts_of R) (texts_few R w) (identifier_text p.identifier)));
        uses = uses_small;
        sized = λ i b. term_size (term_in (encode R) i) (mem_at (terms_of R) i [] b);
      }
