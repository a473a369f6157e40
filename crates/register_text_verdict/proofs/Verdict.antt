-- The verdict on a text by the tests of its rows.
use Rattle.std.specs.Prelude.{Some, None}
use Prim.Native.Nat.{ℕ, zero, suc, ◌*◌, ◌≤◌}
use mathlib.Core.Path.{◌≡◌, refl, sym, ap, ap₂, ◌∙◌, fun_ext}
use mathlib.Core.Bool.{Bool, true, false, cond, ◌||◌}
use mathlib.Core.List.{List, [], ◌∷◌, ◌++◌}
use lib.Dec.{ltb}
use borrow.Author.Tests.{le-ltb}
use native.Mathlib.Omega.{arith}
use lib.ListN.{length, take, get_or}
use lib.Seq.{length-take-le, get_or-take}
use Rattle.text.specs.Bytes.{Bytes, any}
use Rattle.text.specs.Table.{tabulate}
use Rattle.text.proofs.Tables.{count_ext}
use Rattle.language.specs.Answer.{number_of, judge, ◌if◌}
use Rattle.language.specs.Register.{Property, Typing, kind_among}
use Rattle.language.specs.RegisterText.{Entry, prop, page, cat, val, close, entries, breaks_rule, composed_entries, same_declared, some_twice, properties, is_undeclared, value_of, is_unfit, is_page, is_inner, count_of, over_limits, register_of, read_register}
use Rattle.values.specs.declared.Kind.{Kind}
use Rattle.register_text_entries.specs.Items.{entry_by}
use Rattle.register_text_entries.specs.Table.{tag_from, entry_from, entry_at, entries_in}
use Rattle.register_text_entries.specs.declared.Tag.{Tag}
use Rattle.register_text_verdict.specs.Rows.{any_to, places_to, twice_to, twice_at, is_prop, declared_kind, first_in}
use Rattle.register_text_verdict.specs.Checks.{declares, rows_that, kinds_in, fails, some_fails, twice_in, inner_in, lowest, verdict_of, Prepared}
use Rattle.register_text_verdict.specs.declared.Declared.{Declared}
use Rattle.register_text_verdict.specs.declared.Check.{Check}
use Rattle.register_text_verdict.proofs.Rows.{any_rows, count_rows, places_count, twice_rows, kind_rows, any_to_ext, twice_to_ext}

-- the table of checks, as the lowest number
judged : {A : Type 0} (b c d e : Bool) (r : A) → number_of (judge (3 if false ∷ 4 if b ∷ 5 if c ∷ 6 if d ∷ 7 if e ∷ []) r) ≡ lowest b c d e
unfolding judge
judged true c d e r = refl
judged false true d e r = refl
judged false false true e r = refl
judged false false false true r = refl
judged false false false false r = refl

pub too_long : (s : Bytes) → ltb 32768 (length s) ≡ true → 1 ≡ number_of (read_register s)
unfolding read_register
too_long s h = rw h

pub not_lines : (s : Bytes) → ltb 32768 (length s) ≡ false → entries s ≡ None → 2 ≡ number_of (read_register s)
unfolding read_register
not_lines s h e = rw (h, e)

-- a text that reads as the entries k
module _ (s : Bytes) (k : List Entry) (h : ltb 32768 (length s) ≡ false) (e : entries s ≡ Some k) where
  pub not_ruled : any breaks_rule k ≡ true → 3 ≡ number_of (read_register s)
  unfolding read_register judge
  not_ruled r = rw (h, e, r)

  -- l are its entries with names composed
  pub verdict : any breaks_rule k ≡ false → (l : List Entry) → l ≡ composed_entries k
      → lowest (some_twice l) (any (is_undeclared (properties l)) l) (any (is_unfit (properties l)) l) (over_limits l) ≡ number_of (read_register s)
  unfolding read_register
  verdict r l c = rw (h, e, r, ← c) (sym (judged (some_twice l) (any (is_undeclared (properties l)) l) (any (is_unfit (properties l)) l) (over_limits l) (register_of l)))

-- what an entry declares does not hang on the text
declares_any : (what : Declared) (s : Bytes) (t : List ℕ) (i : ℕ) → declares what (entry_at [] t i) ≡ declares what (entry_at s t i)
unfolding entry_at entry_from
declares_any what s t i = go what (tag_from (get_or t (5 * i) 0)) _ _ _ _ _
  where
    go : (what : Declared) (g : Tag) (k : Kind) (a b c d : Bytes) → declares what (entry_by g k a b) ≡ declares what (entry_by g k c d)
    go Declared.Property Tag.Prop k a b c d = refl
    go Declared.Property Tag.Page k a b c d = refl
    go Declared.Property Tag.Cat k a b c d = refl
    go Declared.Property Tag.Val k a b c d = refl
    go Declared.Property Tag.Close k a b c d = refl
    go Declared.Page Tag.Prop k a b c d = refl
    go Declared.Page Tag.Page k a b c d = refl
    go Declared.Page Tag.Cat k a b c d = refl
    go Declared.Page Tag.Val k a b c d = refl
    go Declared.Page Tag.Close k a b c d = refl

-- nor whether it is an inner form
inner_any : (s : Bytes) (t : List ℕ) (i : ℕ) → is_inner (entry_at [] t i) ≡ is_inner (entry_at s t i)
unfolding entry_at entry_from
inner_any s t i = go (tag_from (get_or t (5 * i) 0)) _ _ _ _ _
  where
    go : (g : Tag) (k : Kind) (a b c d : Bytes) → is_inner (entry_by g k a b) ≡ is_inner (entry_by g k c d)
    go Tag.Prop k a b c d = refl
    go Tag.Page k a b c d = refl
    go Tag.Cat k a b c d = refl
    go Tag.Val k a b c d = refl
    go Tag.Close k a b c d = refl

places_ext : (n : ℕ) (g h : ℕ → Bool) → ((i : ℕ) → g i ≡ h i) → places_to n g ≡ places_to n h
unfolding places_to
places_ext zero g h e = refl
places_ext (suc n) g h e = ap₂ (λ a b. a ++ cond b (n ∷ []) []) (places_ext n g h e) (e n)

pub rows_that_lem : (what : Declared) (s : Bytes) (t : List ℕ) (n : ℕ) → rows_that what t n ≡ places_to n (λ i. declares what (entry_at s t i))
rows_that_lem what s t n = places_ext n _ _ (declares_any what s t)

properties_count : (l : List Entry) → length (properties l) ≡ count_of is_prop l
unfolding properties count_of
properties_count [] = refl
properties_count (prop x k ∷ l) = omega (arith, properties_count l)
properties_count (page n x ∷ l) = omega (arith, properties_count l)
properties_count (cat x ∷ l) = omega (arith, properties_count l)
properties_count (val x v ∷ l) = omega (arith, properties_count l)
properties_count (close ∷ l) = omega (arith, properties_count l)

-- two of the first m of a list, in the list of those m
twice_take : (s : Bytes) (t rows : List ℕ) (m : ℕ) → m ≤ length rows → twice_in s t rows m ≡ twice_at (λ i j. same_declared (entry_at s t i) (entry_at s t j)) (take m rows)
twice_take s t rows m fit =
    twice_to_ext m _ _ (λ a b l k. rw (get_or-take m rows a 0 l, get_or-take m rows b 0 k))
    ∙ ap (λ k. twice_to k (λ a b. same_declared (entry_at s t (get_or (take m rows) a 0)) (entry_at s t (get_or (take m rows) b 0)))) (sym (length-take-le m rows fit))

-- a text whose entries and properties the tables hold
module _ (s : Bytes) (t props pages : List ℕ) (n np ng : ℕ) (P : take np props ≡ rows_that Declared.Property t n) (G : take ng pages ≡ rows_that Declared.Page t n) where
  pub kinds_rows : (x : Bytes) → kinds_in s t props np x ≡ kind_among (properties (entries_in s t n)) x
  unfolding entries_in
  kinds_rows x = ap (first_in (λ i. declared_kind x (entry_at s t i))) (P ∙ rows_that_lem Declared.Property s t n) ∙ sym (kind_rows x n (entry_at s t))

  fails_rows : (check : Check) (Γ : Typing) → ((x : Bytes) → kinds_in s t props np x ≡ Γ x) → (i : ℕ) → fails check (kinds_in s t props np) (entry_at s t i) ≡ fails check Γ (entry_at s t i)
  fails_rows check Γ h i = ap (λ (g : Typing). fails check g (entry_at s t i)) (fun_ext h)

  any_entries : (p : Entry → Bool) → any p (entries_in s t n) ≡ any_to n (λ i. p (entry_at s t i))
  unfolding entries_in
  any_entries p = any_rows p n (entry_at s t)

  undeclared_one : (ps : List Property) (e : Entry) → fails Check.Undeclared (kind_among ps) e ≡ is_undeclared ps e
  undeclared_one ps (prop x k) = refl
  undeclared_one ps (page m x) = refl
  undeclared_one ps (cat x) = refl
  undeclared_one ps (val x v) = refl
  undeclared_one ps close = refl

  unfit_one : (ps : List Property) (e : Entry) → fails Check.Unfit (kind_among ps) e ≡ is_unfit ps e
  unfolding value_of
  unfit_one ps (prop x k) = refl
  unfit_one ps (page m x) = refl
  unfit_one ps (cat x) = refl
  unfit_one ps (val x v) = refl
  unfit_one ps close = refl

  -- a check of every row is a check of every entry
  check_rows : (check : Check) (p : Entry → Bool) → ((e : Entry) → fails check (kind_among (properties (entries_in s t n))) e ≡ p e)
      → any_to n (λ i. fails check (kinds_in s t props np) (entry_at s t i)) ≡ any p (entries_in s t n)
  check_rows check p h = any_to_ext n _ _ (λ i l. fails_rows check _ kinds_rows i ∙ h (entry_at s t i)) ∙ sym (any_entries p)

  twice_all : twice_at (λ i j. same_declared (entry_at s t i) (entry_at s t j)) (take np props) || twice_at (λ i j. same_declared (entry_at s t i) (entry_at s t j)) (take ng pages) ≡ some_twice (entries_in s t n)
  unfolding entries_in
  twice_all = rw (P, G, rows_that_lem Declared.Property s t n, rows_that_lem Declared.Page s t n) (sym (twice_rows n (entry_at s t)))

  limits_all : np ≡ length (rows_that Declared.Property t n) → ng ≡ length (rows_that Declared.Page t n) → ltb 64 np || ltb 256 ng || ltb 2048 (inner_in t n) ≡ over_limits (entries_in s t n)
  unfolding over_limits entries_in
  limits_all e f =
      rw (e, f, rows_that_lem Declared.Property s t n, rows_that_lem Declared.Page s t n, places_count n (λ i. is_prop (entry_at s t i)), places_count n (λ i. is_page (entry_at s t i)), count_ext n (λ i. is_inner (entry_at [] t i)) (λ i. is_inner (entry_at s t i)) (λ i l. inner_any s t i), properties_count (tabulate n (entry_at s t)), count_rows is_prop n (entry_at s t), count_rows is_page n (entry_at s t), count_rows is_inner n (entry_at s t))

  -- the verdict on the text is the verdict on the rows
  pub verdict_rows : (r : Bytes) → Prepared r s t n
      → np ≡ length (rows_that Declared.Property t n) → ng ≡ length (rows_that Declared.Page t n)
      → np ≤ length props → ng ≤ length pages → verdict_of s t n props np pages ng ≡ number_of (read_register r)
  unfolding verdict_of
  verdict_rows r p e f fit fit' =
      rw (twice_take s t props np fit, twice_take s t pages ng fit', twice_all, check_rows Check.Undeclared (is_undeclared (properties (entries_in s t n))) (undeclared_one (properties (entries_in s t n))), check_rows Check.Unfit (is_unfit (properties (entries_in s t n))) (unfit_one (properties (entries_in s t n))), limits_all e f)
      (verdict r p.typed (le-ltb 32768 (length r) p.short) p.read p.ruled (entries_in s t n) p.rows)

-- the rule of names and values, of every row
pub rule_rows : (s : Bytes) (t props : List ℕ) (n m : ℕ) → some_fails Check.Rule s t n props m ≡ any breaks_rule (entries_in s t n)
unfolding entries_in
rule_rows s t props n m = sym (any_rows breaks_rule n (entry_at s t))
