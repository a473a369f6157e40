-- The ways through the register call.
use Rattle.std.specs.Prelude.{Result, Ok, Err}
use Prim.Native.Nat.{ℕ, ◌≤◌}
use mathlib.Core.Path.{◌≡◌, refl, sym, ap, ◌∙◌, subst}
use mathlib.Core.Bool.{Bool, true, false}
use mathlib.Core.List.{List}
use native.Mathlib.Omega.{arith}
use lib.Dec.{ltb}
use lib.ListN.{length, replicate, length-replicate}
use Rattle.text.specs.Bytes.{Bytes, all}
use Rattle.text.specs.Table.{tabulate}
use Rattle.text.proofs.Tables.{length_tabulate, get_d_tabulate}
use Rattle.language.specs.Answer.{Answer, refused, accepted, number_of, Answered, and_then}
use Rattle.language.specs.Refusals as refusals
use Rattle.language.specs.Refusals.{refusal_number}
use Rattle.language.specs.declared.refusals.Refusal.{Refusal}
use Rattle.language.specs.Register.{Register}
use Rattle.language.specs.RegisterText.{properties, register_of, read_register}
use Rattle.language.specs.Rules.{is_within_limits}
use Rattle.language.proofs.Rules.{register_rules}
use Rattle.language.proofs.Accepted.{accepted_register}
use Rattle.register_text_entries.specs.Table.{entries_in}
use Rattle.register_text_entries.specs.Composing.{Composes}
use Rattle.register_text_verdict.specs.Checks.{ReadsRows, JudgesTyped, Prepared, Room, Judges}
use Rattle.register_text_verdict.proofs.Judging.{rule_broken}
use Rattle.register_text_verdict.specs.declared.Judged.{Judged}
use Rattle.register_form.specs.Dictionary.{Dictionary}
use Rattle.register_form.specs.Form.{stored}
use Rattle.register_form.specs.Draft.{Draft, drafted, write_into}
use Rattle.register_form.specs.Tables.{Tables, draft_in}
use Rattle.register_text_draft.specs.declared.DraftTables.{DraftTables}
use Rattle.register_text_draft.specs.Drafting.{draft_of}
use Rattle.register_text_draft.specs.Tables.{Accepted, Own, tables_in}
use Rattle.register_text_draft.proofs.Kept.{draft_fits}
use Rattle.register_text_draft.proofs.Loop.{accepted_passed, accepted_reads, accepted_kept, accepted_describes, judged_accepted}
use Rattle.register_form_assembly.specs.Terms.{Filling}
use Rattle.register_form_write.specs.Writer.{Capacity, DraftWritten}
use Rattle.call_answers.specs.Calls.{register_call}
use Rattle.call_answers.proofs.Answers.{as_told}
use Rattle.call_register.specs.Writing.{Writes, Registers, RegistersTyped}
use Rattle.call_register.proofs.Preparing.{ascii_prepared, composed_prepared}

-- The tables of a draft have what the draft has.
texts_many : (t : Tables) → length (draft_in t).texts ≡ t.m
unfolding draft_in
texts_many t = length_tabulate t.m _

terms_many : (t : Tables) → length (draft_in t).terms ≡ t.nt
unfolding draft_in
terms_many t = length_tabulate t.nt _

-- Tables of zeros have room for any draft of an accepted text, and for any text.
pub zeros_many : (n : ℕ) → length (replicate {A = ℕ} n 0) ≡ n
zeros_many n = length-replicate n 0

zeros_room : Room (replicate 5500 0) (replicate 5500 0)
zeros_room = record { properties = omega (arith, zeros_many 5500); places = omega (arith, zeros_many 5500) }

-- The draft of an accepted text, written.
module _ (c : Bytes) (t props : List ℕ) (n np : ℕ) (b : Bytes) where
  abbrev whole : Dictionary
  whole = draft_of (properties (entries_in c t n)) (entries_in c t n)

  within_limits : (s : Bytes) → Accepted s c t props n np → is_within_limits (register_of (entries_in c t n)) ≡ true
  within_limits s a =
      let R = register_of (entries_in c t n) in
      (register_rules R (accepted_register s R (accepted_reads s c t props n np a))).limits

  -- the byte limit never fires
  call_is : (s : Bytes) → Accepted s c t props n np → register_call s b ≡ write_into (register_of (entries_in c t n)) b
  unfolding register_call write_into
  call_is s a = rw (accepted_reads s c t props n np a, within_limits s a)

  module _ (D : DraftTables) (f : (s : Bytes) → Accepted s c t props n np → (uses : List ℕ) → Own D.terms.count uses → draft_in (tables_in D uses) ≡ whole) where
    abbrev T : List ℕ → Tables
    T uses = tables_in D uses

    -- as many forms as a register may have, whatever table tells that they are terms of their own
    forms_few : (s : Bytes) → Accepted s c t props n np → D.terms.count ≤ 2048
    forms_few s a =
        let own = tabulate D.terms.count (λ x. x) in
        let e = f s a own (λ x b. get_d_tabulate D.terms.count (λ x. x) 0 x b) in
        omega (arith, terms_many (T own), ap (λ (d : Dictionary). length d.terms) e, (draft_fits s a.rows.typed (entries_in c t n) (accepted_passed s c t props n np a)).terms)

    pub text_written : (uses : List ℕ) (r : Result (Unit {0}) Refusal) (after : Bytes) → Filling (λ x. x) (replicate 2048 0) D.terms.count uses → DraftWritten (T uses) b (refusals.number_of r) after → Writes c t props n np b r after
    text_written uses r after own w =
        record {
          is = λ s a.
              let few = forms_few s a in
              let e : draft_in (T uses) ≡ whole = f s a uses (λ x c. own.tabled.at x c (omega (arith, own.size, length-replicate {A = ℕ} 2048 0))) in
              let fits = draft_fits s a.rows.typed (entries_in c t n) (accepted_passed s c t props n np a) in
              let room : Capacity (T uses) = record { texts = omega (arith, texts_many (T uses), ap (λ (d : Dictionary). length d.texts) e, fits.texts); terms = omega arith } in
              let told : drafted (draft_in (T uses)) ≡ register_of (entries_in c t n) = ap drafted e ∙ accepted_describes s c t props n np a in
              let answer = w.is (subst Draft (sym e) (accepted_kept s c t props n np a)) room in
              as_told (call_is s a ∙ ap (λ (R : Register). write_into R b) (sym told)) answer;
        }

refusal_some : (e : Refusal) → refusal_number e ≡ 0 → ⊥
refusal_some Refusal.TextTooLong h = absurd (omega arith)
refusal_some Refusal.TextUnread h = absurd (omega arith)
refusal_some Refusal.RuleBroken h = absurd (omega arith)
refusal_some Refusal.DeclaredTwice h = absurd (omega arith)
refusal_some Refusal.UndeclaredValue h = absurd (omega arith)
refusal_some Refusal.UnfitValue h = absurd (omega arith)
refusal_some Refusal.OverLimit h = absurd (omega arith)
refusal_some Refusal.RegisterTooShort h = absurd (omega arith)
refusal_some Refusal.NoRegister h = absurd (omega arith)
refusal_some Refusal.QueryTooLong h = absurd (omega arith)
refusal_some Refusal.QueryUnread h = absurd (omega arith)
refusal_some Refusal.TooDeep h = absurd (omega arith)
refusal_some Refusal.BadName h = absurd (omega arith)
refusal_some Refusal.BadPiece h = absurd (omega arith)
refusal_some Refusal.Undeclared h = absurd (omega arith)
refusal_some Refusal.UnfitPiece h = absurd (omega arith)
refusal_some Refusal.TooManyNodes h = absurd (omega arith)
refusal_some Refusal.QueryTooShort h = absurd (omega arith)
refusal_some Refusal.NoQuery h = absurd (omega arith)
refusal_some Refusal.NoAskedRegister h = absurd (omega arith)
refusal_some Refusal.Mismatch h = absurd (omega arith)
refusal_some Refusal.MarksTooShort h = absurd (omega arith)
refusal_some Refusal.KindsClash h = absurd (omega arith)
refusal_some Refusal.TreeTooShort h = absurd (omega arith)
refusal_some Refusal.NoTree h = absurd (omega arith)

refused_is : (s b : Bytes) (e : Refusal) → refusal_number e ≡ number_of (read_register s) → Answered (register_call s b) b (refusal_number e) b
unfolding register_call
refused_is s b r e = go (read_register s) e
  where
    go : (a : Answer Register) → refusal_number r ≡ number_of a → Answered (and_then a (λ R. stored R b)) b (refusal_number r) b
    go (refused n) e = record { number = e; bytes = refl }
    go (accepted R) e = absurd (refusal_some r e)

-- Prepared rows are judged, and refused or written.
module _ (c : Bytes) (t : List ℕ) (n : ℕ) (props pages : List ℕ) (q : Judged) (j : Result (Unit {0}) Refusal)
    (judges : Room (replicate 5500 0) (replicate 5500 0) → (s : Bytes) → Prepared s c t n → Judges s t n props pages q j) (b : Bytes)
  where
    pub rows_refused : (e : Refusal) → j ≡ Err e → Registers c t n b (Err e) b
    rows_refused e h = record { is = λ s p. refused_is s b e (rw h at (judges zeros_room s p).number) }

    pub rows_written : (r : Result (Unit {0}) Refusal) (after : Bytes) (u : Unit {0}) → j ≡ Ok u → Writes c t props n q.props b r after → Registers c t n b r after
    rows_written r after u e w = record { is = λ s p. w.is s (judged_accepted s c t n props pages q j p (judges zeros_room s p) (ap refusals.number_of e)) }

-- A text of ASCII: 1 to 3, or its names are composed as they are.
module _ (s : Bytes) (t : List ℕ) (r : Result ℕ Refusal) (judges : 27500 ≤ length (replicate {A = ℕ} 27500 0) → JudgesTyped s t r) (b : Bytes) where
  typed : JudgesTyped s t r
  typed = judges (omega (arith, zeros_many 27500))

  pub typed_refused : (e : Refusal) → r ≡ Err e → Answered (register_call s b) b (refusal_number e) b
  typed_refused e h = refused_is s b e (rw h at typed)

  pub ascii_registered : (n : ℕ) → r ≡ Ok n → (q : Result (Unit {0}) Refusal) (after : Bytes) (p : Bool) → p ≡ all (λ b. ltb b 128) s → p ≡ true → Registers s t n b q after → Answered (register_call s b) b (refusals.number_of q) after
  ascii_registered n e q after p f h w = w.is s (ascii_prepared s t n (rw e at typed) (sym f ∙ h))

-- Any other: 1 or 2, or its names are composed, and 3 where they break a rule.
module _ (s : Bytes) (t : List ℕ) (r : Result ℕ Refusal) (reads : 27500 ≤ length (replicate {A = ℕ} 27500 0) → ReadsRows s t r) (b : Bytes) where
  rows : ReadsRows s t r
  rows = reads (omega (arith, zeros_many 27500))

  pub read_refused : (e : Refusal) → r ≡ Err e → Answered (register_call s b) b (refusal_number e) b
  read_refused e h = refused_is s b e (rw h at rows)

  pub read_registered : (n : ℕ) → r ≡ Ok n → (q : Result (Unit {0}) Refusal) (after : Bytes) → RegistersTyped s t n b q after → Answered (register_call s b) b (refusals.number_of q) after
  read_registered n e q after w = w.is (rw e at rows)

module _ (s : Bytes) (t : List ℕ) (n : ℕ) (c : Bytes) (u : List ℕ) (b : Bytes) (p : Bool) (k : Composes s t n (replicate 32768 0) (replicate 27500 0) c u p) where
  pub composed_refused : p ≡ true → RegistersTyped s t n b (Err Refusal.RuleBroken) b
  composed_refused h = record { is = λ y. refused_is s b Refusal.RuleBroken (rule_broken s t n y (sym k.broken ∙ h)) }

  pub composed_registered : p ≡ false → (q : Result (Unit {0}) Refusal) (after : Bytes) → Registers c u n b q after → RegistersTyped s t n b q after
  composed_registered h q after w = record { is = λ y. w.is s (composed_prepared s t n c u p y k h) }
