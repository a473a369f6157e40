-- Working definitions: the forms that pages keep, categories first, each once. At most 2,048 are listed; the count stops at 2,049.
use Rattle.std.specs.Prelude.{ℕ, suc, ◌≤◌, ◌<◌, min, ◌≡◌, Bool, true, false, cond, not, List, [], ◌∷◌, ◌++◌, map, eqb, length, get_or}
use Rattle.text.specs.Bytes.{any}
use Rattle.text.specs.Table.{tabulate}
use Rattle.register_form.specs.Form.{joined}
use Rattle.register_form.specs.Draft.{once_behind, filtered}
use Rattle.register_form.specs.Tables.{between, forms_at}

-- The forms that a pass keeps: of categories the first, of values the second.
abbrev pub of_pass : Bool → ℕ → Bool
of_pass true g = eqb g 0
of_pass false g = not (eqb g 0)

unfoldable pub passed : Bool → List ℕ → List ℕ → List ℕ
passed first groups l = filtered (λ f. of_pass first (get_or groups f 0)) l

-- A number behind those kept, unless it is one of them.
unfoldable pub added : List ℕ → ℕ → List ℕ
added l x = cond (any (eqb x) l) l (l ++ (x ∷ []))

-- What a pass over some forms leaves kept, behind what was.
unfoldable pub kept_by : Bool → List ℕ → List ℕ → List ℕ → List ℕ → List ℕ
kept_by first groups numbers kept l = once_behind eqb kept (map (λ f. get_or numbers f 0) (passed first groups l))

-- What page i keeps, and what the first n pages keep.
unfoldable pub kept_on : List ℕ → List ℕ → List ℕ → List ℕ → ℕ → List ℕ
kept_on groups numbers uses firsts i = kept_by false groups numbers (kept_by true groups numbers [] (forms_at uses firsts i)) (forms_at uses firsts i)

unfoldable pub kept_up_to : List ℕ → List ℕ → List ℕ → List ℕ → ℕ → List ℕ
kept_up_to groups numbers uses firsts n = joined (tabulate n (kept_on groups numbers uses firsts))

-- The table holds the list, as far as it goes; n is how long the list is, or 2,049.
pub record Listed (l table : List ℕ) (n : ℕ) : Type 0 where
  pub count : n ≡ min (length l) 2049
  pub at : (j : ℕ) → j < length l → j < 2048 → get_or table j 0 ≡ get_or l j 0

-- Within a page: `before` is what earlier pages keep, `kept` what the page keeps so far; `used` has the page's number at those.
pub record Keeping (page : ℕ) (before kept used table : List ℕ) (n : ℕ) : Type 0 where
  pub listed : Listed (before ++ kept) table n
  pub room : 2048 ≤ length table
  pub marks : (x : ℕ) → x < length used → eqb (get_or used x 0) page ≡ any (eqb x) kept
  pub most : (x : ℕ) → get_or used x 0 ≤ page

-- What keeping x does, where it is wanted.
pub record Kept (page x : ℕ) (wanted : Bool) (used table : List ℕ) (n : ℕ) (used' table' : List ℕ) (r : ℕ) : Type 0 where
  pub used_size : length used' ≡ length used
  pub table_size : length table' ≡ length table
  pub good : (before kept : List ℕ) → x < length used → Keeping page before kept used table n → Keeping page before (cond wanted (added kept x) kept) used' table' r

-- What a pass over the forms from one up to another does, where their numbers are those of the table of marks.
pub record PassKept (page : ℕ) (first : Bool) (groups numbers uses : List ℕ) (from to : ℕ) (used table : List ℕ) (n : ℕ) (used' table' : List ℕ) (r : ℕ) : Type 0 where
  pub used_size : length used' ≡ length used
  pub table_size : length table' ≡ length table
  pub good : ((f : ℕ) → from ≤ f → f < to → get_or numbers (get_or uses f 0) 0 < length used) → (before kept : List ℕ) → Keeping page before kept used table n → Keeping page before (kept_by first groups numbers kept (between uses from to)) used' table' r

-- Between pages.
pub record Ready (page : ℕ) (before used table : List ℕ) (n : ℕ) : Type 0 where
  pub listed : Listed before table n
  pub room : 2048 ≤ length table
  pub most : (x : ℕ) → get_or used x 0 ≤ page

-- What the pages keep: in a table, with where each page's begin.
pub record PagesKept (groups numbers uses firsts : List ℕ) (n : ℕ) (table starts : List ℕ) (r : ℕ) : Type 0 where
  pub listed : Listed (kept_up_to groups numbers uses firsts n) table r
  pub begins : (j : ℕ) → j ≤ n → get_or starts j 0 ≡ min (length (kept_up_to groups numbers uses firsts j)) 2049

-- Room for what is kept; the first page's begins at 0.
pub record Fresh (n : ℕ) (table starts : List ℕ) : Type 0 where
  pub room : 2048 ≤ length table
  pub first : get_or starts 0 0 ≡ 0
  pub starts_room_lem : n < length starts

-- The numbers of the first n pages' forms are those of a table of so many marks.
abbrev pub Within : List ℕ → List ℕ → List ℕ → ℕ → ℕ → Type 0
Within numbers uses firsts n size = (i f : ℕ) → i < n → get_or firsts i 0 ≤ f → f < get_or firsts (suc i) 0 → get_or numbers (get_or uses f 0) 0 < size
