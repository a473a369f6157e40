-- The terms of a page: what is asked of one, and of one after the other.
use Rattle.std.specs.Prelude.{Some, None}
use Rattle.std.proofs.Common.{nat_cmp}
use Prim.Native.Nat.{ℕ, zero, suc, ◌+◌, ◌*◌, ◌-◌, ◌/◌, ◌≤◌, ◌<◌}
use mathlib.Core.Path.{◌≡◌, refl, sym, ap, ap₂, ◌∙◌}
use mathlib.Core.Bool.{Bool, true, false, cond, not, ◌&&◌, ◌||◌, or-false, and-true}
use mathlib.Core.List.{List, [], ◌∷◌}
use native.Mathlib.Numerals.{add-one}
use native.Mathlib.Omega.{arith}
use borrow.Author.Tests.{lt-ltb, le-ltb, le-leb, lt-leb, ne_eqb}
use lib.Dec.{leb, ltb, eqb}
use lib.ListN.{length, get_or}
use Rattle.text.specs.Bytes.{Bytes, part, same, numbers, order_of, any}
use Rattle.text.specs.Parts.{part_of}
use Rattle.text.specs.Table.{tabulate}
use Rattle.std.specs.declared.cmp.Ordering.{Ordering}
use Rattle.text.specs.declared.Span.{Span}
use Rattle.text.proofs.Laws.{any_append, numbers_cmp}
use Rattle.values.specs.declared.Kind.{Kind}
use Rattle.values.specs.declared.Scalar.{Scalar}
use Rattle.values.specs.declared.Split.{Split}
use Rattle.values.specs.Answers.{split_of}
use Rattle.values.specs.Values.{same_scalar}
use Rattle.language.specs.Answer.{found, only_if}
use Rattle.language.specs.Comparators.{is_equal, in_any_namespace}
use Rattle.language.specs.References.{stands_as, namespace_meant}
use Rattle.language.specs.Semantics.{stands, Cv}
use Rattle.language.specs.declared.Comparator.{Comparator}
use Rattle.language.specs.declared.SurfaceComparator.{SurfaceComparator}
use Rattle.language.proofs.EachComparator.{mark_word}
use Rattle.query_core.specs.declared.Constant.{Constant}
use Rattle.buffer.specs.Numbers.{two_at}
use Rattle.register_form.specs.Dictionary.{space_of, name_of, term_code}
use Rattle.register_form.specs.Form.{term_at, text_at}
use Rattle.register_form_view.specs.Ranges.{name_order}
use Rattle.register_form_view.specs.View.{text_number, stands_at, namespace_fits, meant_at, passes_at, marked, leads_into, form_bytes, numbers_in}
use Rattle.register_form_view.specs.declared.Rank.{Rank}
use Rattle.register_form_view.specs.declared.ValueTest.{ValueTest}
use Rattle.register_form_view.proofs.Ordering.{order_ranked, order_compared}

-- text_number
pub number_of_text : (h : Bytes) (f : ℕ) (t : Bytes) (r : ℕ) → t ≡ term_at h f → r ≡ two_at t 1 → r ≡ text_number h f
unfolding text_number
number_of_text h f t r e g = g ∙ ap (λ (u : Bytes). two_at u 1) e

-- value_stands
module _ (h : Bytes) (f : ℕ) (k : Kind) (c : Comparator) (w : Constant) (q : Bytes) (rank : Rank) where
  abbrev Stands : Bool → Type 0
  Stands r = r ≡ stands_at h q rank c w k f

  pub stands_page : k ≡ Kind.Page → Stands false
  unfolding Cv
  stands_page e = rw e (go w)
    where
      go : (w : Constant) → false ≡ stands_at h q rank c w Kind.Page f
      go (Constant.Scalar j b) = refl
      go (Constant.String p) = refl

  module _ (j : Scalar) (e : k ≡ Kind.Scalar j) where
    pub stands_scalar : (l : Scalar) (a b : ℕ) (o : Ordering) (s r : Bool) → w ≡ Constant.Scalar l b → s ≡ same_scalar j l → a ≡ term_code (term_at h f) → o ≡ nat_cmp a b → r ≡ stands c o → Stands (s && r)
    unfolding Cv
    stands_scalar l a b o s r v same is g u = rw (e, v, same, u, g, is, numbers_cmp) (go (same_scalar j l))
      where
        go : (t : Bool) → (t && stands c (numbers (term_code (term_at h f)) b)) ≡ found (cond t (Some (numbers (term_code (term_at h f)) b)) None) (stands c) false
        go true = refl
        go false = refl

    pub scalar_string : (p : Span) → w ≡ Constant.String p → Stands false
    unfolding Cv
    scalar_string p v = rw (e, v)

  module _ (e : k ≡ Kind.String) where
    pub string_scalar : (l : Scalar) (b : ℕ) → w ≡ Constant.Scalar l b → Stands false
    unfolding Cv
    string_scalar l b v = rw (e, v)

    module _ (p : Span) (n : ℕ) (o : Ordering) (r : Bool) (v : w ≡ Constant.String p) (is : n ≡ text_number h f) (u : r ≡ stands c o) where
      stands_string : o ≡ name_order h (part_of q p) rank n → Stands r
      stands_string g = rw (e, v) (u ∙ ap (stands c) (g ∙ rw is))

      pub stands_ranked : n < rank.plain → o ≡ numbers (1 + 2 * n) rank.key → Stands r
      stands_ranked l g = stands_string (order_ranked h (part_of q p) rank n o l g)

      pub stands_compared : (x : Bytes) → rank.plain ≤ n → x ≡ part q p.start p.len → o ≡ order_of (name_of (text_at h n)) x → Stands r
      stands_compared x l lies g = stands_string (order_compared h (part_of q p) rank n o l (rw lies at g))

pub ruleset standing = (number_of_text, stands_page, stands_scalar, scalar_string, string_scalar, stands_ranked, stands_compared)

-- has_namespace
module _ (q : Bytes) (c : SurfaceComparator) (s : Split) (n t : Bytes) (at : t ≡ n) where
  pub written_fits : (b r : Bool) (x : Bytes) (p : Span) → s.namespace ≡ Some p → b ≡ in_any_namespace c → x ≡ part q p.start p.len → r ≡ same t x → (b || r) ≡ namespace_fits c (split_of q s) n
  unfolding namespace_meant
  written_fits b r x p e f lies g = rw (e, f, g, at, lies, mark_word c) (go (in_any_namespace c))
    where
      go : (m : Bool) → (m || same n (part_of q p)) ≡ found (only_if (not m) (Some (part_of q p))) (λ y. same n y) true
      go true = refl
      go false = refl

  pub bare_fits : (b : Bool) → s.namespace ≡ None → b ≡ is_equal c → (not b || eqb (length t) 0) ≡ namespace_fits c (split_of q s) n
  unfolding namespace_meant same
  bare_fits b e f = rw (e, f, at) (go (is_equal c) n)
    where
      go : (m : Bool) (n : Bytes) → (not m || eqb (length n) 0) ≡ found (only_if m (Some [])) (λ y. same n y) true
      go true [] = refl
      go true (a ∷ n) = ne_eqb (length (a ∷ n)) 0 (λ e. omega (arith, e))
      go false n = refl

-- article_stands
module _ (h q : Bytes) (rank : Rank) (c : SurfaceComparator) (p : Span) (n : ℕ) (o : Ordering) (r : Bool) (v : r ≡ stands_as c o) where
  pub article_by_rank : n < rank.plain → o ≡ numbers (1 + 2 * n) rank.key → r ≡ stands_as c (name_order h (part_of q p) rank n)
  article_by_rank l g = v ∙ ap (stands_as c) (order_ranked h (part_of q p) rank n o l g)

  pub article_by_bytes : (x : Bytes) → rank.plain ≤ n → x ≡ part q p.start p.len → o ≡ order_of (name_of (text_at h n)) x → r ≡ stands_as c (name_order h (part_of q p) rank n)
  article_by_bytes x l lies g = v ∙ ap (stands_as c) (order_compared h (part_of q p) rank n o l (rw lies at g))

-- link_meant
module _ (h q : Bytes) (rank : Rank) (c : SurfaceComparator) (s : Split) (k : Kind) (f : ℕ) where
  module _ (n : ℕ) (r : Bool) (e : k ≡ Kind.Page) (is : n ≡ text_number h f) (v : r ≡ stands_as c (name_order h (part_of q s.article) rank n)) where
    met : meant_at h q rank c s k f ≡ (namespace_fits c (split_of q s) (space_of (text_at h n)) && r)
    met = rw (e, v, is)

    pub link_unmet : r ≡ false → false ≡ meant_at h q rank c s k f
    link_unmet t = sym (met ∙ rw t (go (namespace_fits c (split_of q s) (space_of (text_at h n)))))
      where
        go : (b : Bool) → (b && false) ≡ false
        go true = refl
        go false = refl

    pub link_meant : (b : Bool) → r ≡ true → b ≡ namespace_fits c (split_of q s) (space_of (text_at h n)) → b ≡ meant_at h q rank c s k f
    link_meant b t g = g ∙ sym (and-true (namespace_fits c (split_of q s) (space_of (text_at h n)))) ∙ sym (met ∙ rw t)

  pub scalar_unmeant : (j : Scalar) → k ≡ Kind.Scalar j → false ≡ meant_at h q rank c s k f
  scalar_unmeant j e = rw e

  pub string_unmeant : k ≡ Kind.String → false ≡ meant_at h q rank c s k f
  string_unmeant e = rw e

-- value_passes
module _ (h q : Bytes) (rank : Rank) (test : ValueTest) (k : Kind) (f : ℕ) (r : Bool) where
  pub passes_constant : (c : Comparator) (w : Constant) → test ≡ ValueTest.Constant c w → r ≡ stands_at h q rank c w k f → r ≡ passes_at h q rank test k f
  passes_constant c w e g = rw e g

  pub passes_reference : (c : SurfaceComparator) (s : Split) → test ≡ ValueTest.Reference c s → r ≡ meant_at h q rank c s k f → r ≡ passes_at h q rank test k f
  passes_reference c s e g = rw e g

pub ruleset meaning = (number_of_text, written_fits, bare_fits, article_by_rank, article_by_bytes, link_unmet, link_meant, scalar_unmeant, string_unmeant, passes_constant, passes_reference)

-- marked_at
pub marked_none : (marks : List Bool) (place : ℕ) → place ≡ 0 → false ≡ marked marks place
marked_none marks place e = rw e

pub marked_one : (marks : List Bool) (place : ℕ) (r : Bool) → (place ≡ 0 → ⊥) → r ≡ get_or marks (place - 1) false → r ≡ marked marks place
marked_one marks zero r n e = absurd (n refl)
marked_one marks (suc k) r n e = e ∙ ap (λ (j : ℕ). get_or marks j false) (let z : suc k - 1 ≡ k = omega arith in z)

module _ (h : Bytes) (places : List ℕ) (marks : List Bool) (k : Kind) (f : ℕ) where
  -- leads_into
  pub leads_page : (n w g : ℕ) (r : Bool) → k ≡ Kind.Page → n ≡ text_number h f → w ≡ n → g ≡ get_or places w 0 → r ≡ marked marks g → r ≡ leads_into h places marks k f
  leads_page n w g r e is v at u = rw e (u ∙ ap (marked marks) (at ∙ ap (λ (j : ℕ). get_or places j 0) (v ∙ is)))

pub ruleset passing = (marked_none, marked_one, leads_page)

-- The terms from low up to high that pass: below them, above them and among them.
module _ (low high : ℕ) (p : ℕ → Bool) (j : ℕ) where
  abbrev Passing : Bool
  Passing = (leb low j && ltb j high) && p j

  pub range_below : j < low → Passing ≡ false
  range_below l = rw (lt-leb low j l)

  pub range_above : high ≤ j → Passing ≡ false
  range_above l = rw (le-ltb j high l) (go (leb low j))
    where
      go : (b : Bool) → ((b && false) && p j) ≡ false
      go true = refl
      go false = refl

  pub range_at : (b : Bool) → low ≤ j → j < high → b ≡ p j → b ≡ Passing
  range_at b l k e = rw (le-leb low j l, lt-ltb j high k) e

any_one : (p : ℕ → Bool) (n : ℕ) → any p (n ∷ []) ≡ p n
unfolding any
any_one p n = or-false (p n)

-- The loop over a page's forms: whether one of the first numbers passes.
module _ (b : Bytes) (p : ℕ → Bool) where
  abbrev pub Looked : ℕ → Bool → Type 0
  Looked k some = some ≡ any p (tabulate k (λ j. two_at b (2 * j)))

  pub looked_none : Looked 0 false
  unfolding tabulate any
  looked_none = refl

  pub looked_more : (k : ℕ) (some : Bool) (f : ℕ) (r : Bool) → Looked k some → f ≡ two_at b (2 * k) → r ≡ p f → Looked (k + 1) (some || r)
  unfolding tabulate
  looked_more k some f r a there is =
      rw (add-one k)
      (ap₂ ◌||◌ a (is ∙ ap p there ∙ sym (any_one p (two_at b (2 * k))))
      ∙ sym (any_append p (tabulate k (λ j. two_at b (2 * j))) (two_at b (2 * k) ∷ [])))

  pub looked_all : (k : ℕ) (some : Bool) → Looked k some → k ≡ length b / 2 → some ≡ any p (numbers_in b)
  unfolding numbers_in
  looked_all k some a e = rw (← e) a

-- forms_between
pub forms_cut : (h b : Bytes) (start end s d c : ℕ) → s ≡ start → d ≡ end - start → c ≡ d → b ≡ part h (1226 + 2 * s) (2 * c) → b ≡ form_bytes h start end
unfolding form_bytes
forms_cut h b start end s d c e f g is = is ∙ rw (e, g, f)
