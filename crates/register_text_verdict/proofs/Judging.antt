-- The ways through judging: a text that is too long, one that is not lines of the two forms, and one that is.
use Rattle.std.specs.Prelude.{Option, Some, None, Result, Ok, Err, IsErr, IsErrAnd, ok_or}
use Prim.Native.Nat.{ℕ, zero, suc, ◌≤◌, ◌<◌}
use mathlib.Core.Path.{◌≡◌, refl, sym, ap, ◌∙◌}
use mathlib.Core.Bool.{Bool, true, false, not, ◌&&◌, ◌||◌, or-true, and-false, false≢true}
use mathlib.Core.List.{List, []}
use native.Mathlib.Omega.{arith}
use lib.Dec.{ltb}
use lib.ListN.{length, take}
use borrow.Author.Tests.{lt-ltb, le-ltb, not-true, not-false}
use Rattle.text.specs.Bytes.{Bytes, any}
use Rattle.text.proofs.Tables.{count_most}
use Rattle.values.specs.declared.Kind.{Kind}
use Rattle.values.specs.Values.{read_value}
use Rattle.language.specs.Answer.{number_of, found, ◌>>=◌}
use Rattle.language.specs.Refusals as refusals
use Rattle.language.specs.Refusals.{refusal_number}
use Rattle.language.specs.declared.refusals.Refusal.{Refusal}
use Rattle.language.specs.Register.{Typing}
use Rattle.language.specs.RegisterText.{Entry, prop, page, cat, val, close, breaks_rule, read_register}
use Rattle.register_text_entries.specs.Table.{entry_at, entries_in, Filled}
use Rattle.register_text_entries.proofs.Reading.{filled_none, filled_few, filled_some}
use Rattle.register_text_verdict.specs.Rows.{any_to}
use Rattle.register_text_verdict.specs.Checks.{declares, rows_that, Collected, kinds_in, fails, some_fails, twice_in, inner_in, lowest, verdict_of, RowsRead, ReadsRows, Typed, Prepared, Room, Indexed, Judges}
use Rattle.register_text_verdict.specs.declared.Declared.{Declared}
use Rattle.register_text_verdict.specs.declared.Check.{Check}
use Rattle.register_text_verdict.proofs.Rows.{places_count}
use Rattle.register_text_verdict.proofs.Verdict.{too_long, not_lines, not_ruled, verdict_rows, rule_rows}

-- A val without a declared property is unfit.
undeclared_unfit : (Γ : Typing) (e : Entry) → fails Check.Undeclared Γ e ≡ true → fails Check.Unfit Γ e ≡ true
undeclared_unfit Γ (prop x k) h = h
undeclared_unfit Γ (page n x) h = h
undeclared_unfit Γ (cat x) h = h
undeclared_unfit Γ (val x v) h = go (Γ x) h
  where
    go : (o : Option Kind) → found o (λ k. false) true ≡ true → found (o >>= λ k. read_value k v) (λ w. false) true ≡ true
    go None h = refl
    go (Some k) h = absurd (false≢true h)
undeclared_unfit Γ close h = h

any_to_lem : (n : ℕ) (f g : ℕ → Bool) → ((i : ℕ) → f i ≡ true → g i ≡ true) → any_to n f ≡ true → any_to n g ≡ true
unfolding any_to
any_to_lem zero f g h e = e
any_to_lem (suc n) f g h e = go (any_to n f) (f n) refl refl e (any_to_lem n f g h)
  where
    go : (a b : Bool) → any_to n f ≡ a → f n ≡ b → (a || b) ≡ true → (any_to n f ≡ true → any_to n g ≡ true) → (any_to n g || g n) ≡ true
    go true b p q r ih = rw (ih p)
    go false true p q r ih = rw (h n q) (or-true (any_to n g))
    go false false p q r ih = absurd (false≢true r)

-- So 5 is looked for only where 6 holds.
both_needed : (s : Bytes) (t : List ℕ) (n : ℕ) (props : List ℕ) (np : ℕ) → (some_fails Check.Unfit s t n props np && some_fails Check.Undeclared s t n props np) ≡ some_fails Check.Undeclared s t n props np
both_needed s t n props np = go (some_fails Check.Undeclared s t n props np) refl
  where
    unfit : some_fails Check.Undeclared s t n props np ≡ true → some_fails Check.Unfit s t n props np ≡ true
    unfit = any_to_lem n (λ i. fails Check.Undeclared (kinds_in s t props np) (entry_at s t i)) (λ i. fails Check.Unfit (kinds_in s t props np) (entry_at s t i)) (λ i. undeclared_unfit (kinds_in s t props np) (entry_at s t i))

    go : (b : Bool) → some_fails Check.Undeclared s t n props np ≡ b → (some_fails Check.Unfit s t n props np && some_fails Check.Undeclared s t n props np) ≡ some_fails Check.Undeclared s t n props np
    go true e = rw (unfit e)
    go false e = rw e (and-false (some_fails Check.Unfit s t n props np))

pub undeclared_none : (a b : Bool) → not a ≡ true → false ≡ (a && b)
undeclared_none a b h = rw (not-true a h)

pub undeclared_some : (a b r : Bool) → not a ≡ false → r ≡ b → r ≡ (a && b)
undeclared_some a b r h e = rw (not-false a h) e

pub verdict_is : (s : Bytes) (t : List ℕ) (n : ℕ) (props : List ℕ) (np : ℕ) (pages : List ℕ) (ng : ℕ) (p4 g4 b5 b6 : Bool) (k r : ℕ)
    → p4 ≡ twice_in s t props np → g4 ≡ twice_in s t pages ng
    → b6 ≡ some_fails Check.Unfit s t n props np → b5 ≡ (b6 && some_fails Check.Undeclared s t n props np) → k ≡ inner_in t n
    → r ≡ lowest (p4 || g4) b5 b6 (ltb 64 np || ltb 256 ng || ltb 2048 k) → r ≡ verdict_of s t n props np pages ng
unfolding verdict_of
verdict_is s t n props np pages ng p4 g4 b5 b6 k r hp hg h6 h5 hk h = h ∙ rw (hp, hg, h5, h6, hk, both_needed s t n props np)

-- What `?` hands on.
pub handed : {A : Type 0} (r : Result A Refusal) (e : Refusal) → IsErr r × IsErrAnd r (λ x. x ≡ e) → r ≡ Err e
handed (Ok a) e h = absurd h.1
handed (Err x) e h = ap Err h.1

-- Reading a text.
pub read_long : (s : Bytes) → 32768 < length s → 1 ≡ number_of (read_register s)
read_long s h = too_long s (lt-ltb 32768 (length s) h)

pub read_told : (s : Bytes) (t₀ t : List ℕ) → length s ≤ 32768 → (o : Option ℕ) → Filled s t₀ t o → 27500 ≤ length t₀ → (r : Result ℕ Refusal) → r ≡ ok_or o Refusal.TextUnread → ReadsRows s t r
read_told s t₀ t short None f room r e = rw e (not_lines s (le-ltb 32768 (length s) short) (filled_none s t₀ t None f refl))
read_told s t₀ t short (Some n) f room r e = rw e (record { short = short; read = filled_some s t₀ t (Some n) f n refl short room; few = filled_few s t₀ t (Some n) f n refl short })

-- A text that breaks a rule.
pub rule_broken : (s : Bytes) (t : List ℕ) (n : ℕ) → RowsRead s t n → any breaks_rule (entries_in s t n) ≡ true → 3 ≡ number_of (read_register s)
rule_broken s t n r h = not_ruled s (entries_in s t n) (le-ltb 32768 (length s) r.short) r.read h

-- Judging a text as typed.
module _ (s : Bytes) (t : List ℕ) (n : ℕ) (f : RowsRead s t n) (props : List ℕ) (b : Bool) (e : b ≡ some_fails Check.Rule s t n props 0) where
  told : any breaks_rule (entries_in s t n) ≡ b
  told = sym (rule_rows s t props n 0) ∙ sym e

  pub typed_unruled : b ≡ true → 3 ≡ number_of (read_register s)
  typed_unruled k = rule_broken s t n f (told ∙ k)

  pub typed_ruled : b ≡ false → Typed s t n
  typed_ruled k = record { short = f.short; read = f.read; ruled = told ∙ k; few = f.few }

-- Judging rows.
module _ (s : Bytes) (t : List ℕ) (n : ℕ) (props₀ props pages₀ pages : List ℕ) (np ng : ℕ) (P : Collected Declared.Property t n props₀ props np) (G : Collected Declared.Page t n pages₀ pages ng) (room : Room props₀ pages₀) (r : Bytes) (p : Prepared r s t n) where
  most : (what : Declared) → length (rows_that what t n) ≤ 5500
  most what = omega (arith, p.few, places_count n (λ i. declares what (entry_at [] t i)), count_most n (λ i. declares what (entry_at [] t i)))

  rows_listed : take np props ≡ rows_that Declared.Property t n
  rows_listed = P.rows (omega (arith, p.few)) (omega (arith, p.few, room.properties))

  places_listed : take ng pages ≡ rows_that Declared.Page t n
  places_listed = G.rows (omega (arith, p.few)) (omega (arith, p.few, room.places))

  index : Indexed t n props pages (record { props = np; pages = ng })
  index = record { properties = rows_listed; places = places_listed; property_count = P.count; page_count = G.count }

  number : (v : ℕ) → v ≡ verdict_of s t n props np pages ng → v ≡ number_of (read_register r)
  number v e =
      e
      ∙ verdict_rows s t props pages n np ng rows_listed places_listed r p P.count G.count
      (omega (arith, P.count, P.size, room.properties, most Declared.Property))
      (omega (arith, G.count, G.size, room.places, most Declared.Page))

  pub judged : (v : Result (Unit {0}) Refusal) → refusals.number_of v ≡ verdict_of s t n props np pages ng → Judges r t n props pages (record { props = np; pages = ng }) v
  judged v h = record { number = number (refusals.number_of v) h; index = index }
