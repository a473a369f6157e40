-- What a page of an opened register holds, by its terms.
use Prim.Native.Nat.{ℕ, suc, ◌+◌, ◌*◌, ◌≤◌, ◌<◌}
use mathlib.Core.Path.{◌≡◌, refl, sym, ap, ap₂, ◌∙◌}
use mathlib.Core.Bool.{Bool, true, false, ◌&&◌, ◌||◌, or-false, and-true}
use mathlib.Core.List.{List, [], ◌∷◌, ◌++◌, map, Memᴰ}
use native.Mathlib.Omega.{arith}
use borrow.Author.Tests.{ltb-true, ltb-false}
use lib.Dec.{ltb}
use lib.ListN.{length, get_or, get_or-eq_default}
use Rattle.text.specs.Bytes.{Bytes, same, any, numbers, order_of}
use Rattle.text.specs.Table.{tabulate}
use Rattle.std.specs.declared.cmp.Ordering.{Ordering}
use Rattle.text.proofs.Laws.{any_append}
use Rattle.text.proofs.Tables.{length_tabulate, get_d_tabulate, tabulate_ext}
use Rattle.values.specs.Values.{Value, kind_of}
use Rattle.language.specs.Register.{Held, Page, Register, holds}
use Rattle.language.specs.RegisterText.{empty_page}
use Rattle.language.specs.Semantics.{stands, Ca, follows, no_mixed}
use Rattle.language.specs.declared.Comparator.{Comparator}
use Rattle.language.proofs.Members.{any_same, any_none, by_test}
use Rattle.register_form.specs.Dictionary.{PageRow, name_of}
use Rattle.register_form.specs.Encoding.{identifier_text, category_term, value_term, page_terms, encode_page}
use Rattle.register_form.specs.Form.{page_count, form_start, register_in, page_at, text_at}
use Rattle.register_form.specs.Opened.{page_in, Opened}
use Rattle.register_form.proofs.Lists.{mem_at}
use Rattle.register_form.proofs.Rules.{terms_few}
use Rattle.register_form.proofs.Decoded.{page_text}
use Rattle.register_form_view.specs.Ranges.{RankOf, TestRank, name_order, term_number, within, CategoryRange, PropertyRange}
use Rattle.register_form_view.specs.View.{passes, passes_at, leads_into, form_bytes, numbers_in, form_passes, name_passes, name_passes_at, marks_by, marks_in, Agrees}
use Rattle.register_form_view.specs.declared.NameTest.{NameTest}
use Rattle.register_form_view.specs.declared.Rank.{Rank}
use Rattle.register_form_view.specs.declared.ValueTest.{ValueTest}
use Rattle.register_form_view.specs.declared.TermRange.{TermRange}
use Rattle.register_form_view.proofs.Opening.{known, count_pages, page_row, forms_there}
use Rattle.register_form_view.proofs.Looking.{range_above}
use Rattle.register_form_view.proofs.Leading.{form, passes_there, leads_there}
use Rattle.register_form_view.proofs.Ordering.{order_ranked, order_compared, name_order_lem}

any_map : {A B : Type 0} (p : B → Bool) (f : A → B) (l : List A) → any p (map f l) ≡ any (λ a. p (f a)) l
unfolding any
any_map p f [] = refl
any_map p f (a ∷ l) = ap (λ (b : Bool). p (f a) || b) (any_map p f l)

-- A test of a page's forms is one of its categories and values.
module _ {h : Bytes} {places : List ℕ} {R : Register} (o : Opened h places R) (i : ℕ) (b : i < length R.pages) where
  pub page_member : Memᴰ (page_in R i) R.pages
  unfolding page_in
  page_member = mem_at R.pages i (empty_page [] []) b

  forms_test : (p : ℕ → Bool) → form_passes h p i ≡ (any (λ y. p (term_number R (category_term R y))) (page_in R i).categories || any (λ v. p (term_number R (value_term R v))) (page_in R i).values)
  unfolding encode_page page_terms
  forms_test p =
      ap (any p) (forms_there (known o) i b)
      ∙ ap (λ (r : PageRow). any p r.forms) (page_row (known o) i b)
      ∙ any_map p (term_number R) (map (category_term R) (page_in R i).categories ++ map (value_term R) (page_in R i).values)
      ∙ any_append (λ t. p (term_number R t)) (map (category_term R) (page_in R i).categories) (map (value_term R) (page_in R i).values)
      ∙ ap₂ ◌||◌ (any_map (λ t. p (term_number R t)) (category_term R) (page_in R i).categories) (any_map (λ t. p (term_number R t)) (value_term R) (page_in R i).values)

  category_held : (x : Bytes) (r : TermRange) → CategoryRange R x r → form_passes h (within r) i ≡ any (same x) (page_in R i).categories
  category_held x r c =
      forms_test (within r)
      ∙ ap₂ ◌||◌
      (any_same _ (same x) (page_in R i).categories (λ y n. c.categories (page_in R i) y page_member n))
      (any_none _ (page_in R i).values (λ v n. c.values (page_in R i) v page_member n))
      ∙ or-false (any (same x) (page_in R i).categories)

  -- where a test of a term of a range is one of its value
  property_held : (x : Bytes) (r : TermRange) → PropertyRange R x r → (p : ℕ → Bool) (test : Value → Bool)
      → ((v : Held) (n : Memᴰ v (page_in R i).values) → r.kind ≡ kind_of v.value → p (form (known o) page_member n) ≡ test v.value)
      → form_passes h (λ f. within r f && p f) i ≡ holds x test (page_in R i)
  unfolding holds
  property_held x r c p test e =
      forms_test (λ f. within r f && p f)
      ∙ ap₂ ◌||◌
      (any_none _ (page_in R i).categories (λ y n. ap (λ (s : Bool). s && p (term_number R (category_term R y))) (c.categories (page_in R i) y page_member n)))
      (any_same _ _ (page_in R i).values (λ v n. ap (λ (s : Bool). s && p (term_number R (value_term R v))) (c.values (page_in R i) v page_member n) ∙ named v n))
    where
      named : (v : Held) → Memᴰ v (page_in R i).values → (same v.property x && p (term_number R (value_term R v))) ≡ (same v.property x && test v.value)
      named v n = by_test (same v.property x) (λ t. rw t (e v n (c.kinds (page_in R i) v page_member n t))) (λ t. rw t)

-- The marks of all pages.
module _ {h : Bytes} {places : List ℕ} {R : Register} (o : Opened h places R) where
  pub marks_are : (f : ℕ → Bool) (test : Page → Bool) → ((i : ℕ) → i < length R.pages → f i ≡ test (page_in R i)) → tabulate 256 (λ j. ltb j (page_count h) && f j) ≡ marks_in R test
  marks_are f test e =
      tabulate_ext 256 _ _
      (λ j k. rw (count_pages (known o)) (by_test (ltb j (length R.pages)) (λ t. rw t (e j (ltb-true j (length R.pages) t))) (λ t. rw t)))

  pub category_pages : (x : Bytes) (r : TermRange) → CategoryRange R x r → marks_by h (within r) ≡ marks_in R (λ p. any (same x) p.categories)
  category_pages x r c = marks_are _ (λ p. any (same x) p.categories) (λ i b. category_held o i b x r c)

  module _ (x : Bytes) (r : TermRange) (c : PropertyRange R x r) where
    pub property_pages : marks_by h (within r) ≡ marks_in R (holds x (λ v. true))
    property_pages =
        tabulate_ext 256 _ _ (λ j k. ap (λ (p : Bool). ltb j (page_count h) && p) (any_same _ _ (numbers_in (form_bytes h (form_start h j) (form_start h (suc j)))) (λ f n. sym (and-true (within r f)))))
        ∙ marks_are _ (holds x (λ v. true)) (λ i b. property_held o i b x r c (λ f. true) (λ v. true) (λ v n k. refl))

    -- by a table that has each term of the range that passes
    table_has : (p : ℕ → Bool) (wanted : List Bool) → wanted ≡ tabulate 2048 (λ f. within r f && p f) → marks_by h (λ f. get_or wanted f false) ≡ marks_by h (λ f. within r f && p f)
    table_has p wanted e =
        tabulate_ext 256 _ _
        (λ j k.
        ap (λ (b : Bool). ltb j (page_count h) && b)
        (any_same _ _ (numbers_in (form_bytes h (form_start h j) (form_start h (suc j))))
        (λ f n.
        by_test (ltb f 2048)
        (λ t. rw e (get_d_tabulate 2048 (λ f. within r f && p f) false f (ltb-true f 2048 t)))
        (λ t.
        let past : 2048 ≤ f = ltb-false f 2048 t in
        let short : length wanted ≤ f = omega (arith, ap length e, length_tabulate 2048 (λ f. within r f && p f)) in
        get_or-eq_default wanted false short ∙ sym (range_above r.low r.high p f (omega (arith, c.most, terms_few R (known o).limits)))))))

    pub value_pages : (q : Bytes) (rank : Rank) (test : ValueTest) → TestRank h q test rank → (wanted : List Bool) → wanted ≡ tabulate 2048 (λ f. within r f && passes_at h q rank test r.kind f)
        → marks_by h (λ f. get_or wanted f false) ≡ marks_in R (holds x (passes q test))
    value_pages q rank test f wanted e =
        table_has _ wanted e
        ∙ marks_are _ (holds x (passes q test))
        (λ i b. property_held o i b x r c _ _ (λ v n k. rw k (passes_there (known o) (page_member o i b) n q rank test f)))

    pub link_pages : (marks : List Bool) (inner : Page → Bool) → Agrees R marks inner → (wanted : List Bool) → wanted ≡ tabulate 2048 (λ f. within r f && leads_into h places marks r.kind f)
        → marks_by h (λ f. get_or wanted f false) ≡ marks_in R (holds x (follows no_mixed R inner))
    link_pages marks inner a wanted e =
        table_has _ wanted e
        ∙ marks_are _ (holds x (follows no_mixed R inner))
        (λ i b. property_held o i b x r c _ _ (λ v n k. rw k (leads_there o (page_member o i b) n marks inner a)))

  pub named_pages : (x : Bytes) (test : NameTest) (rank : Rank) → RankOf h x rank → (n : ℕ) → n ≡ page_count h → tabulate 256 (λ j. ltb j n && name_passes_at h x rank test j) ≡ marks_in R (name_passes x test)
  unfolding Ca encode_page
  named_pages x test rank f n e = rw e (marks_are _ (name_passes x test) (λ i b. go test i b))
    where
      go : (test : NameTest) (i : ℕ) → i < length R.pages → name_passes_at h x rank test i ≡ name_passes x test (page_in R i)
      go NameTest.Namespace i b = ap (λ (S : Register). same (page_in S i).identifier.namespace x) o.register
      go (NameTest.Article c) i b =
          let id = (page_in R i).identifier in
          ap (λ (row : PageRow). stands c (name_order h x rank row.identifier)) (page_row (known o) i b)
          ∙ ap (stands c) (name_order_lem (known o) x rank f (identifier_text id) (page_text R (page_member o i b)) id.namespace id.article refl)

-- name_passes
module _ (h x : Bytes) (rank : Rank) (test : NameTest) (i : ℕ) (r : Bool) where
  pub passes_namespace : (y : Bytes) → test ≡ NameTest.Namespace → y ≡ (page_in (register_in h) i).identifier.namespace → r ≡ same y x → r ≡ name_passes_at h x rank test i
  passes_namespace y e f g = rw (e, ← f) g

  module _ (c : Comparator) (n : ℕ) (d : Ordering) (e : test ≡ NameTest.Article c) (f : n ≡ (page_at h i).identifier) (u : r ≡ stands c d) where
    pub article_ranked : n < rank.plain → d ≡ numbers (1 + 2 * n) rank.key → r ≡ name_passes_at h x rank test i
    article_ranked l g = rw (e, ← f, ← order_ranked h x rank n d l g) u

    pub article_compared : (y : Bytes) → rank.plain ≤ n → y ≡ name_of (text_at h n) → d ≡ order_of y x → r ≡ name_passes_at h x rank test i
    article_compared y l w g = rw (e, ← f, ← order_compared h x rank n d l (g ∙ rw w)) u

pub ruleset naming-pages = (passes_namespace, article_ranked, article_compared)
