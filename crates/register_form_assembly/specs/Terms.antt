-- Working definitions: the terms of a draft with the new numbers of their texts, nine bytes each.
use Rattle.std.specs.Prelude.{ℕ, ◌-◌, ◌≡◌, cond, List, eqb, length, get_or}
use Rattle.text.specs.Bytes.{Bytes}
use Rattle.text.specs.Table.{tabulate, Tabled}
use Rattle.values.specs.Values.{kind_from}
use Rattle.values.specs.declared.Kind.{Kind}
use Rattle.register_form.specs.Dictionary.{term_of}

-- The new code of a value of a kind: the new number of its text, where it has one.
abbrev pub code_for : Kind → List ℕ → ℕ → ℕ
code_for Kind.Page numbers c = get_or numbers c 0
code_for (Kind.Scalar k) numbers c = c
code_for Kind.String numbers c = get_or numbers c 0

unfoldable pub code_by : List ℕ → List ℕ → ℕ → ℕ → ℕ
code_by kinds numbers g c = cond (eqb g 0) (get_or numbers c 0) (code_for (kind_from (get_or kinds (g - 1) 0)) numbers c)

unfoldable pub term_by : List ℕ → List ℕ → List ℕ → List ℕ → ℕ → Bytes
term_by kinds numbers groups codes f = term_of (get_or groups f 0) (code_by kinds numbers (get_or groups f 0) (get_or codes f 0))

unfoldable pub terms_by : List ℕ → List ℕ → List ℕ → List ℕ → ℕ → List Bytes
terms_by kinds numbers groups codes n = tabulate n (term_by kinds numbers groups codes)

-- The table l holds f j in each place j below i, as far as it goes, and is as long as before.
pub record Filling (f : ℕ → ℕ) (l₀ : List ℕ) (i : ℕ) (l : List ℕ) : Type 0 where
  pub size : length l ≡ length l₀
  pub tabled : Tabled f i l
