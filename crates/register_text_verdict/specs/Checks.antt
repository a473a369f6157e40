-- Working definitions: what the functions over rows answer.
use Rattle.std.specs.Prelude.{ℕ, ◌≤◌, ◌≡◌, Bool, true, false, cond, ◌||◌, List, [], ltb, length, take, get_or, Some, Result, Ok, Err}
use Rattle.text.specs.Bytes.{Bytes, any}
use Rattle.text.specs.Table.{count_to}
use Rattle.values.specs.Values.{read_value}
use Rattle.language.specs.Answer.{number_of, ◌>>=◌, found}
use Rattle.language.specs.Refusals as refusals
use Rattle.language.specs.Refusals.{refusal_number}
use Rattle.language.specs.declared.refusals.Refusal.{Refusal}
use Rattle.language.specs.Register.{Typing}
use Rattle.language.specs.RegisterText.{Entry, prop, page, cat, val, close, is_page, is_inner, breaks_rule, composed_entries, same_declared, entries, read_register}
use Rattle.register_text_entries.specs.Table.{entry_at, entries_in}
use Rattle.register_text_entries.specs.declared.Tag.{Tag}
use Rattle.register_text_verdict.specs.Rows.{any_to, twice_to, places_to, is_prop, declared_kind, first_in}
use Rattle.register_text_verdict.specs.declared.Declared.{Declared}
use Rattle.register_text_verdict.specs.declared.Check.{Check}
use Rattle.register_text_verdict.specs.declared.Judged.{Judged}

-- The entry declares a property, or a page.
abbrev pub declares : Declared → Entry → Bool
declares Declared.Property e = is_prop e
declares Declared.Page e = is_page e

abbrev pub declares_tag : Declared → Tag → Bool
declares_tag Declared.Property Tag.Prop = true
declares_tag Declared.Property Tag.Page = false
declares_tag Declared.Property Tag.Cat = false
declares_tag Declared.Property Tag.Val = false
declares_tag Declared.Property Tag.Close = false
declares_tag Declared.Page Tag.Prop = false
declares_tag Declared.Page Tag.Page = true
declares_tag Declared.Page Tag.Cat = false
declares_tag Declared.Page Tag.Val = false
declares_tag Declared.Page Tag.Close = false

-- The rows that do.
abbrev pub rows_that : Declared → List ℕ → ℕ → List ℕ
rows_that what t n = places_to n (λ i. declares what (entry_at [] t i))

-- What collecting rows answers; out is the list of rows before and after.
pub record Collected (what : Declared) (t : List ℕ) (n : ℕ) (out now : List ℕ) (r : ℕ) : Type 0 where
  pub count : r ≡ length (rows_that what t n)
  pub rows : n ≤ 65536 → n ≤ length out → take r now ≡ rows_that what t n
  pub size : length now ≡ length out

abbrev pub inner_tag : Tag → Bool
inner_tag Tag.Prop = false
inner_tag Tag.Page = false
inner_tag Tag.Cat = true
inner_tag Tag.Val = true
inner_tag Tag.Close = false

-- The kinds that the first m of a list of rows declare.
abbrev pub kinds_in : Bytes → List ℕ → List ℕ → ℕ → Typing
kinds_in s t rows m x = first_in (λ i. declared_kind x (entry_at s t i)) (take m rows)

-- 3, 5 or 6 of an entry, by the kinds of the properties.
abbrev pub fails : Check → Typing → Entry → Bool
fails Check.Rule Γ e = breaks_rule e
fails Check.Undeclared Γ (prop x k) = false
fails Check.Undeclared Γ (page n x) = false
fails Check.Undeclared Γ (cat x) = false
fails Check.Undeclared Γ (val x v) = found (Γ x) (λ k. false) true
fails Check.Undeclared Γ close = false
fails Check.Unfit Γ (prop x k) = false
fails Check.Unfit Γ (page n x) = false
fails Check.Unfit Γ (cat x) = false
fails Check.Unfit Γ (val x v) = found (Γ x >>= λ k. read_value k v) (λ w. false) true
fails Check.Unfit Γ close = false

-- Some of the first n rows fails; two of the first m of a list of rows are alike.
abbrev pub some_fails : Check → Bytes → List ℕ → ℕ → List ℕ → ℕ → Bool
some_fails check s t n props m = any_to n (λ i. fails check (kinds_in s t props m) (entry_at s t i))

abbrev pub twice_in : Bytes → List ℕ → List ℕ → ℕ → Bool
twice_in s t rows m = twice_to m (λ a b. same_declared (entry_at s t (get_or rows a 0)) (entry_at s t (get_or rows b 0)))

abbrev pub inner_in : List ℕ → ℕ → ℕ
inner_in t n = count_to n (λ i. is_inner (entry_at [] t i))

-- The first n rows of t are the entries of the text s.
pub record RowsRead (s : Bytes) (t : List ℕ) (n : ℕ) : Type 0 where
  pub short : length s ≤ 32768
  pub read : entries s ≡ Some (entries_in s t n)
  pub few : n ≤ 5500

-- What reading a text answers, where its table has room: refusal 1 or 2, or its entries are in the table.
abbrev pub ReadsRows : Bytes → List ℕ → Result ℕ Refusal → Type 0
ReadsRows s t (Ok n) = RowsRead s t n
ReadsRows s t (Err e) = refusal_number e ≡ number_of (read_register s)

-- The same, and their names and values keep their rules as typed.
pub record Typed (s : Bytes) (t : List ℕ) (n : ℕ) : Type 0 where
  pub short : length s ≤ 32768
  pub read : entries s ≡ Some (entries_in s t n)
  pub ruled : any breaks_rule (entries_in s t n) ≡ false
  pub few : n ≤ 5500

-- What judging a text as typed answers, where its table has room: refusal 1 to 3, or its entries are in the table.
abbrev pub JudgesTyped : Bytes → List ℕ → Result ℕ Refusal → Type 0
JudgesTyped s t (Ok n) = Typed s t n
JudgesTyped s t (Err e) = refusal_number e ≡ number_of (read_register s)

-- The first n rows of t, over the text c, are the entries of such a text s, their names composed.
pub record Prepared (s c : Bytes) (t : List ℕ) (n : ℕ) : Type 0 where
  pub typed : List Entry
  pub short : length s ≤ 32768
  pub read : entries s ≡ Some typed
  pub ruled : any breaks_rule typed ≡ false
  pub rows : entries_in c t n ≡ composed_entries typed
  pub few : n ≤ 5500

-- Tables large enough for any text: it has at most one entry for every six bytes.
abbrev pub row_room : ℕ
row_room = 27500

pub record Room (props pages : List ℕ) : Type 0 where
  pub properties : 5500 ≤ length props
  pub places : 5500 ≤ length pages

-- Which of the first n rows are properties and pages, and how many.
pub record Indexed (t : List ℕ) (n : ℕ) (props pages : List ℕ) (c : Judged) : Type 0 where
  pub properties : take c.props props ≡ rows_that Declared.Property t n
  pub places : take c.pages pages ≡ rows_that Declared.Page t n
  pub property_count : c.props ≡ length (rows_that Declared.Property t n)
  pub page_count : c.pages ≡ length (rows_that Declared.Page t n)

-- The lowest of 4 to 7 whose condition holds, else 0.
abbrev pub lowest : Bool → Bool → Bool → Bool → ℕ
lowest a b c d = cond a 4 (cond b 5 (cond c 6 (cond d 7 0)))

-- The verdict on the first n rows, of which np are properties and ng are pages.
unfoldable pub verdict_of : Bytes → List ℕ → ℕ → List ℕ → ℕ → List ℕ → ℕ → ℕ
verdict_of s t n props np pages ng =
    lowest (twice_in s t props np || twice_in s t pages ng)
    (some_fails Check.Undeclared s t n props np) (some_fails Check.Unfit s t n props np)
    (ltb 64 np || ltb 256 ng || ltb 2048 (inner_in t n))

-- What judging prepared rows answers, where the tables have room; they are those at the end.
pub record Judges (s : Bytes) (t : List ℕ) (n : ℕ) (props pages : List ℕ) (c : Judged) (r : Result (Unit {0}) Refusal) : Type 0 where
  pub number : refusals.number_of r ≡ number_of (read_register s)
  pub index : Indexed t n props pages c
