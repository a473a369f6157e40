-- What the user demands of the calls together.
use Rattle.std.specs.Prelude.{ℕ, ◌<◌, ◌≡◌, Bool, true, false, cond, not, ◌&&◌, List, [], ◌∷◌, ◌++◌, map, ◌↔◌, ltb, ℤ, pos, neg_ℤ, length, get_or, drop, Option, Some, None}
use Rattle.text.specs.Bytes.{Bytes, any}
use Rattle.text.specs.Table.{bit}
use Rattle.values.specs.Names.{Identifier}
use Rattle.language.specs.Answer.{accepted, accepted_of, or_refuse, and_then, Check, ◌if◌, found}
use Rattle.language.specs.Register.{Page, Register, Typing, kinds_of}
use Rattle.language.specs.RegisterText.{entries, empty_page, read_register}
use Rattle.language.specs.RegisterText as RegisterText
use Rattle.language.specs.Rules.{is_within_limits}
use Rattle.language.specs.Joining.{join, kinds_clash}
use Rattle.language.specs.Surface.{Query, properties_of}
use Rattle.language.specs.RawQuery.{read_whole}
use Rattle.language.specs.QueryText.{read_text}
use Rattle.language.specs.QueryText as QueryText
use Rattle.language.specs.Core.{Core, nodes}
use Rattle.language.specs.Elaboration.{elaborate, is_undeclared, fit}
use Rattle.language.specs.Semantics.{Mixed, Q, mismatch, selects}
use Rattle.language.specs.Sets.{◌∈◌, page_set, database_of}
use Rattle.language.specs.Direct.{meaning, direct_marks}
use Rattle.language.specs.Calls.{core_of}
use Rattle.register_form.specs.Form.{register_size, form_of, held_register}
use Rattle.query_tree.specs.Form.{tree_size, tree_of, held_tree}
use Rattle.query_core.specs.Held.{query_size, held_query}
use Rattle.query_core.specs.Form.{query_of}
use Rattle.call_answers.specs.Calls.{query_call, read_call, fit_call, marked}

-- There is none.
abbrev pub lacks : {A : Type 0} → Option A → Bool
lacks None = true
lacks (Some a) = false

-- "the lowest number whose condition holds": the checks stand in the order in which they are judged.
unfoldable pub lowest : List Check → Option ℕ
lowest [] = None
lowest (n if b ∷ l) = cond b (Some n) (lowest l)

-- The numbers rise, strictly between two.
unfoldable pub rises : ℕ → ℕ → List Check → Bool
rises low high [] = ltb low high
rises low high (n if b ∷ l) = ltb low n && rises n high l

-- The table of refusals, a call each. "a condition is judged where no lower one holds": conditions on what was read stand where
-- it was read.
unfoldable pub register_table : Bytes → Bytes → List Check
register_table t h =
    1 if ltb 32768 (length t)
    ∷ 2 if lacks (entries t)
    ∷ (found (entries t) RegisterText.checks [] ++ (8 if ltb (length h) register_size ∷ []))

-- "the order that a bracket gives goes before lowest first": the join's conditions in the order of its request.
unfoldable pub join_table : Bytes → Bytes → Bytes → List Check
join_table h k b =
    22 if lacks (held_register h)
    ∷ 22 if lacks (held_register k)
    ∷ found (held_register h) (λ R.
    found (held_register k) (λ S.
    32 if kinds_clash R S
    ∷ 7 if not (is_within_limits (join R S))
    ∷ 8 if ltb (length b) register_size
    ∷ []) []) []

unfoldable pub fit_table : Typing → Query → List Check
fit_table Γ q =
    17 if any (is_undeclared Γ) (properties_of q)
    ∷ 18 if lacks (elaborate q Γ)
    ∷ 19 if found (elaborate q Γ) (λ c. ltb 256 (nodes c)) false
    ∷ []

unfoldable pub query_table : Bytes → Bytes → Bytes → List Check
query_table h s b =
    11 if lacks (held_register h)
    ∷ 12 if ltb 1024 (length s)
    ∷ 13 if lacks (read_whole s)
    ∷ (found (read_whole s) QueryText.checks []
    ++ (found (held_register h) (λ R. found (accepted_of (read_text s)) (fit_table (kinds_of R)) []) []
    ++ (20 if ltb (length b) query_size ∷ [])))

-- "Reading gives 12 to 16, then 33"
unfoldable pub read_table : Bytes → Bytes → List Check
read_table s b =
    12 if ltb 1024 (length s)
    ∷ 13 if lacks (read_whole s)
    ∷ (found (read_whole s) QueryText.checks [] ++ (33 if ltb (length b) tree_size ∷ []))

-- "fitting gives 11, then 34, .. then 17 to 20": the order of the request.
unfoldable pub fit_call_table : Bytes → Bytes → Bytes → List Check
fit_call_table t h b =
    11 if lacks (held_register h)
    ∷ 34 if lacks (held_tree t)
    ∷ (found (held_register h) (λ R. found (held_tree t) (fit_table (kinds_of R)) []) [] ++ (20 if ltb (length b) query_size ∷ []))

unfoldable pub ask_table : Bytes → Bytes → Bytes → List Check
ask_table q h b =
    21 if lacks (held_query q)
    ∷ 22 if lacks (held_register h)
    ∷ found (held_register h) (λ R.
    23 if found (held_query q) (λ c. mismatch c R) false
    ∷ 24 if ltb (length b) (length R.pages)
    ∷ []) []

-- The first demand: "Refused, each by its own number and with the lent buffers untouched"; "Everything else is accepted". Left says
-- what an accepted call returns, and what it leaves in the buffer.
abbrev pub Judged : Option ℕ → (ℕ → Bytes → Type 0) → Bytes → Bytes → ℤ → Type 0
Judged None Left b after r = (k : ℕ) × (r ≡ pos k) × Left k after
Judged (Some n) Left b after r = (r ≡ neg_ℤ (pos n)) × (after ≡ b)

pub record FirstDemand (table : List Check) (Left : ℕ → Bytes → Type 0) (b after : Bytes) (r : ℤ) : Type 0 where
  pub judged : Judged (lowest table) Left b after r

-- What an accepted call leaves: the form of a register at the front of the buffer b, and 0.
pub record LeftForm (R : Register) (b : Bytes) (k : ℕ) (after : Bytes) : Type 0 where
  pub zero : k ≡ 0
  pub bytes : after ≡ form_of R ++ drop register_size b
  pub held : held_register after ≡ Some R

-- of the register call, that of the register of its text t;
pub record LeftRegister (t b : Bytes) (k : ℕ) (after : Bytes) : Type 0 where
  pub register : Register
  pub reads : read_register t ≡ accepted register
  pub left : LeftForm register b k after

-- of the join call, that of the join;
pub record LeftJoin (h k b : Bytes) (n : ℕ) (after : Bytes) : Type 0 where
  pub first : Register
  pub second : Register
  pub holds_first : held_register h ≡ Some first
  pub holds_second : held_register k ≡ Some second
  pub left : LeftForm (join first second) b n after

-- the form of a core query at the front of the buffer b, and 0:
pub record LeftCore (c : Core) (b : Bytes) (k : ℕ) (after : Bytes) : Type 0 where
  pub zero : k ≡ 0
  pub bytes : after ≡ query_of c ++ drop query_size b
  pub held : held_query after ≡ Some c

-- of the query call, that of the core query of its text s;
pub record LeftQuery (h s b : Bytes) (k : ℕ) (after : Bytes) : Type 0 where
  pub register : Register
  pub core : Core
  pub holds : held_register h ≡ Some register
  pub fits : core_of register s ≡ accepted core
  pub left : LeftCore core b k after

-- of the read call, the form of the surface query of its text s, later bytes as before;
pub record LeftTree (s b : Bytes) (k : ℕ) (after : Bytes) : Type 0 where
  pub zero : k ≡ 0
  pub query : Query
  pub reads : read_text s ≡ accepted query
  pub bytes : after ≡ tree_of query ++ drop tree_size b
  pub held : held_tree after ≡ Some query

-- of the fit call, that of the core query of its tree t;
pub record LeftFit (t h b : Bytes) (k : ℕ) (after : Bytes) : Type 0 where
  pub register : Register
  pub query : Query
  pub core : Core
  pub holds : held_register h ≡ Some register
  pub tree : held_tree t ≡ Some query
  pub fits : fit (kinds_of register) query ≡ accepted core
  pub left : LeftCore core b k after

-- of the ask call, the marks of the run and their number, later bytes as before.
pub record LeftMarks (q h b : Bytes) (k : ℕ) (after : Bytes) : Type 0 where
  pub register : Register
  pub core : Core
  pub holds : held_register h ≡ Some register
  pub asks : held_query q ≡ Some core
  pub count : k ≡ marked (map (selects core register) register.pages)
  pub bytes : after ≡ map bit (map (selects core register) register.pages) ++ drop (length register.pages) b

-- The byte is 1 exactly where the fact holds, and 0 otherwise.
pub record IsMark (b : ℕ) (fact : Type 0) : Type 0 where
  pub one : (b ≡ 1) ↔ fact
  pub zero : (b ≡ 0) ↔ (¬ fact)

-- The page in place i.
abbrev pub page_at : Register → ℕ → Page
page_at W i = get_or W.pages i (empty_page [] [])

-- The second demand: "The pages marked are those that the query language's published semantics gives: text to surface query, surface
-- query to core query, core query to page set". s is the query text, R the register that it was fitted to, W that of the run.
pub record SecondDemand (s : Bytes) (R W : Register) (b after : Bytes) (r : ℤ) : Type 0 where
  pub surface : Query
  pub core : Core
  pub reads : accepted_of (read_text s) ≡ Some surface
  pub elaborates : elaborate surface (kinds_of R) ≡ Some core
  pub bytes : after ≡ map bit (map (selects core W) W.pages) ++ drop (length W.pages) b
  pub count : r ≡ pos (marked (map (selects core W) W.pages))
  -- the pages marked are those in the thesis' page set of the core query (4.5.3), and all in that set are pages of W
  pub page : (i : ℕ) → i < length W.pages → IsMark (get_or after i 0) ((page_at W i).identifier ∈ page_set core (database_of W))
  pub placed : (j : Identifier) → j ∈ page_set core (database_of W) → (i : ℕ) × (i < length W.pages) × ((page_at W i).identifier ≡ j)
  -- there is no mismatch, and so no choice for what the thesis leaves undefined (4.5.2) changes what the core query selects
  pub unmixed : mismatch core W ≡ false
  pub free : (u w : Mixed) → map (Q core u W) W.pages ≡ map (Q core w W) W.pages

-- The third demand. q is the held query, s its text, W the register of the run, b and after the answer buffer.
pub record ThirdDemand (q s : Bytes) (W : Register) (b after : Bytes) (r : ℤ) : Type 0 where
  -- "the run is accepted", "the number returned is that of the pages it selects"
  pub count : r ≡ pos (marked (direct_marks s W))
  -- "A page's byte is 1 exactly when the direct meaning of the text selects that page, and 0 otherwise"
  pub page : (i : ℕ) → i < length W.pages → get_or after i 0 ≡ bit (meaning s W (page_at W i))
  -- "every later byte is as before"
  pub later : drop (length W.pages) after ≡ drop (length W.pages) b
  pub size : length after ≡ length b
  -- "never compares values of two kinds", as in the second demand
  pub core : Core
  pub holds : held_query q ≡ Some core
  pub unmixed : mismatch core W ≡ false
  pub free : (u w : Mixed) → map (Q core u W) W.pages ≡ map (Q core w W) W.pages

-- "With a tree buffer long enough, reading then fitting gives the held query and the refusals of the old call, save for the order of
-- number 11": h is the held register, s the query text, u the tree's buffer, b the held query's.
pub record ReadThenFit (h s u b : Bytes) : Type 0 where
  pub is : query_call h s b ≡ and_then (or_refuse 11 (held_register h)) (λ R. and_then (read_call s u) (λ t. fit_call t h b))
