-- The loop over rows: none, one more, one that does not fit, all; and the test of all bytes.
use Rattle.std.specs.Prelude.{Option, Some, None}
use Rattle.std.specs.Option.{is_some}
use Prim.Native.Nat.{ℕ, zero, suc, ◌+◌, ◌*◌, ◌-◌, ◌≤◌, ◌<◌}
use mathlib.Core.Path.{◌≡◌, refl, sym, ap, ◌∙◌}
use mathlib.Core.Bool.{Bool, true, false, ◌&&◌, false≢true}
use native.Mathlib.Decide.{ℕ_discrete}
use native.Mathlib.Numerals.{add-one}
use native.Mathlib.Omega.{arith}
use lib.Dec.{leb}
use borrow.Author.Tests.{leb-true, le-leb, lt-leb}
use Rattle.text.specs.Bytes.{Bytes}
use Rattle.buffer.specs.Numbers.{two_at}
use Rattle.buffer.specs.Tests.{zeros_at}
use Rattle.language.proofs.Members.{and_true, both_true}
use Rattle.query_tree.specs.declared.Row.{Row}
use Rattle.query_tree.specs.Form.{row_in}
use Rattle.query_tree.specs.Testing.{numbers_fit, row_fits, string_at, rows_fit, is_exact}
use Rattle.query_tree_test.specs.Loops.{RowsTested}

pub and_no : (b : Bool) → b && false ≡ false
and_no true = refl
and_no false = refl

abbrev or_zero : Option ℕ → ℕ
or_zero (Some n) = n
or_zero None = 0

-- No string begins behind 1,024 bytes.
pub row_far : (at : ℕ) (r : Row) → 1024 < at → false ≡ row_fits at r
unfolding row_fits
row_far at r h = sym (ap (λ (b : Bool). numbers_fit at r && b) (lt-leb (at + r.first + r.second) 1024 (omega (arith, h))) ∙ and_no (numbers_fit at r))

module _ (h : Bytes) where
  pub record Fitted (i at : ℕ) : Type 0 where
    pub is : rows_fit h i ≡ true
    pub ends : at ≡ string_at h i
    pub most : at ≤ 1024

  pub rows_none : Fitted 0 0
  unfolding rows_fit string_at
  rows_none = record { is = refl; ends = refl; most = omega arith }

  fits_most : (at : ℕ) (r : Row) → row_fits at r ≡ true → at + r.first + r.second ≤ 1024
  unfolding row_fits
  fits_most at r t = leb-true (at + r.first + r.second) 1024 (and_true (numbers_fit at r) (leb (at + r.first + r.second) 1024) t).1

  module _ (i at : ℕ) (r : Row) (f : Fitted i at) (e : r ≡ row_in h i) where
    pub rows_more : (b : Bool) (x y : ℕ) → b ≡ row_fits at r → b ≡ true → x ≡ r.first → y ≡ r.second → Fitted (i + 1) (at + x + y)
    unfolding rows_fit string_at
    rows_more b x y g t j k =
        let fits : row_fits at r ≡ true = sym g ∙ t in
        let most = fits_most at r fits in
        rw (add-one i, j, k)
        (record {
          is = both_true f.is (sym (ap (row_fits (string_at h i)) e) ∙ ap (λ (n : ℕ). row_fits n r) (sym f.ends) ∙ fits);
          ends = ap (λ (s : Row). at + s.first + s.second) e ∙ ap (λ (n : ℕ). n + (row_in h i).first + (row_in h i).second) f.ends;
          most = most;
        })

    no_later : (n : ℕ) → row_fits at r ≡ false → i < n → rows_fit h n ≡ false
    unfolding rows_fit
    no_later zero t l = absurd (omega arith)
    no_later (suc n) t l = go (ℕ_discrete i n) (no_later n t)
      where
        go : Dec (i ≡ n) → (i < n → rows_fit h n ≡ false) → rows_fit h n && row_fits (string_at h n) (row_in h n) ≡ false
        go (yes p) k = ap (λ (b : Bool). rows_fit h n && b) (ap (λ (m : ℕ). row_fits (string_at h m) (row_in h m)) (sym p) ∙ sym (ap (row_fits (string_at h i)) e) ∙ ap (λ (m : ℕ). row_fits m r) (sym f.ends) ∙ t) ∙ and_no (rows_fit h n)
        go (no p) k = rw (k (omega (arith, p)))

    pub rows_stop : (n : ℕ) (b : Bool) → b ≡ row_fits at r → b ≡ false → i < n → RowsTested h n None
    rows_stop n b g t l = record { is = sym (no_later n (sym g ∙ t) l); ends = λ end z. absurd (false≢true (ap is_some z)) }

  pub rows_all : (i n at : ℕ) → Fitted i at → i ≤ n → n ≤ i → RowsTested h n (Some at)
  rows_all i n at f a b =
      let e : i ≡ n = omega arith in
      rw (← e) (record { is = sym f.is; ends = λ end z. let k : at ≡ end = ap or_zero z in rw (← k) (f.ends, f.most) })

-- The whole test: too many nodes, rows that do not fit, the zeros behind rows and strings.
module _ (h : Bytes) (n : ℕ) (e : n ≡ two_at h 0) where
  pub exact_many : 681 < n → false ≡ is_exact h
  unfolding is_exact
  exact_many l = rw (← e, lt-leb n 681 l)

  module _ (l : n ≤ 681) (r : Option ℕ) (t : RowsTested h n r) where
    pub exact_unfit : r ≡ None → false ≡ is_exact h
    unfolding is_exact
    exact_unfit f = rw (← e, le-leb n 681 l, ← t.is, f)

    pub exact_is : (end : ℕ) → r ≡ Some end → (y z : Bool) → y ≡ zeros_at h (2 + 6 * n) (4086 - 6 * n) → z ≡ zeros_at h (4088 + end) (1024 - end) → y && z ≡ is_exact h
    unfolding is_exact
    exact_is end f y z i j = rw (← e, le-leb n 681 l, ← t.is, i, j, (t.ends end f).0, f)
