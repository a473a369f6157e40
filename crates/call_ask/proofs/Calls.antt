-- The ways through the run and the ask call.
use Rattle.std.specs.Prelude.{Option, Some, None, Result, Ok, Err}
use Rattle.std.specs.Option.{is_some}
use Prim.Native.Nat.{ℕ, ◌≤◌, ◌<◌}
use mathlib.Core.Path.{◌≡◌, refl, sym, ap, ap₂, ◌∙◌}
use mathlib.Core.Bool.{Bool, true, false, not, cond, true≢false, false≢true}
use mathlib.Core.List.{List, [], ◌∷◌, ◌++◌, map}
use native.Mathlib.Omega.{arith}
use borrow.Author.Tests.{lt-ltb, le-ltb, not-true, not-false}
use lib.Dec.{ltb}
use lib.ListN.{length, get_or, drop, replicate, length-replicate, length-map}
use Rattle.text.specs.Bytes.{Bytes, part}
use Rattle.text.specs.Table.{tabulate, count_to}
use Rattle.text.proofs.Tables.{length_tabulate}
use Rattle.pageset.specs.declared.PageSet.{PageSet}
use Rattle.pageset.specs.Marks.{marks_from}
use Rattle.language.specs.Answer.{Answer, refused, accepted}
use Rattle.language.specs.Core.{Core}
use Rattle.language.specs.Register.{Register}
use Rattle.language.specs.Semantics.{selects, run}
use Rattle.language.proofs.Rules.{register_rules}
use Rattle.language.proofs.Members.{and_true}
use Rattle.language.specs.Rules.{is_register}
use Rattle.text.specs.Bytes.{same}
use Rattle.register_form.specs.Dictionary.{decode_page, decode}
use Rattle.register_form.specs.Form.{page_count, register_size, page_at, dictionary_in, register_in, form_of, is_form}
use Rattle.register_form.specs.Opened.{Opened}
use Rattle.register_form.proofs.Rules.{within}
use Rattle.register_form_test.specs.Opening.{Opens}
use Rattle.register_form_test.proofs.Held.{held_none, held_some, held_form}
use Rattle.query_core.specs.Held.{count_in, held_query}
use Rattle.query_core.specs.Stack.{stack_at, HoldsCore}
use Rattle.query_core.proofs.Stacks.{held_holds}
use Rattle.ask_evaluation.specs.Meaning.{marks_of, Means, Evaluates}
use Rattle.ask_evaluation.specs.Mixing.{Mismatches}
use Rattle.ask_evaluation.specs.declared.Evaluated.{Evaluated}
use Rattle.call_answers.specs.Calls.{ask_call, marks_in}
use Rattle.language.specs.declared.refusals.Refusal.{Refusal}
use Rattle.call_ask.specs.Call.{answer_of, asked, Asks}
use Rattle.call_ask.specs.Running.{MarksWritten, run_into, Answers, Selected, Runs}
use Rattle.call_ask.proofs.Writing.{marks_bytes, marks_count}

-- the query, where there is one
no_query : (o : Option Core) → is_some o ≡ false → o ≡ None
no_query None e = refl
no_query (Some c) e = absurd (true≢false e)

some_query : (o : Option Core) → is_some o ≡ true → (c : Core) × (o ≡ Some c)
some_query None e = absurd (false≢true e)
some_query (Some c) e = (c, refl)

-- what an answer is, once it is known
answers : (a d : Answer (List Bool)) (b after : Bytes) (r : Result ℕ Refusal) → a ≡ d → answer_of r ≡ asked d → after ≡ marks_in b d → Answers a b after r
answers a d b after r e f g = record { answer = f ∙ sym (ap asked e); buffer = g ∙ sym (ap (marks_in b) e) }

-- how many pages an opened register has
pages_are : {h : Bytes} {places : List ℕ} {R : Register} → Opened h places R → page_count h ≡ length R.pages
unfolding register_in decode dictionary_in
pages_are {h} o =
    sym (length-map (tabulate (page_count h) (page_at h)) (decode_page (dictionary_in h)) ∙ length_tabulate (page_count h) (page_at h))
    ∙ ap (λ (x : Register). length x.pages) o.register

pages_few : {h : Bytes} {places : List ℕ} {R : Register} → Opened h places R → length R.pages ≤ 256
unfolding is_form
pages_few {h} {places} {R} o =
    let t = and_true (is_register (register_in h)) (same h (form_of (register_in h))) o.form in
    (within R (register_rules R (rw o.register at t.0)).limits).pages

-- run
module _ (h : Bytes) (places : List ℕ) (q b : Bytes) (m : Bool) (mixed : Mismatches h q m) where
  pub run_mixed : m ≡ true → Runs h places q b b (Err Refusal.Mismatch)
  unfolding Runs Mismatches run_into run
  run_mixed e R v c k = answers _ (refused 23) b b _ (rw (sym (mixed places R v c k) ∙ e)) refl refl

  module _ (e : m ≡ false) where
    run_is : (R : Register) → Opened h places R → (c : Core) → HoldsCore q c
        → run_into b c R ≡ cond (ltb (length b) (length R.pages)) (refused 24) (accepted (map (selects c R) R.pages))
    unfolding Mismatches run_into run
    run_is R v c k = rw (sym (mixed places R v c k) ∙ e)

    pub run_short : (n w : ℕ) → n ≡ page_count h → w ≡ n → length b < w → Runs h places q b b (Err Refusal.MarksTooShort)
    unfolding Runs
    run_short n w f g l R v c k =
        answers _ (refused 24) b b _ (run_is R v c k ∙ rw (lt-ltb (length b) (length R.pages) (omega (arith, pages_are v)))) refl refl

    pub run_done : (n w : ℕ) (set : PageSet) (count : ℕ) (after : Bytes) → n ≡ page_count h → w ≡ n → w ≤ length b → Selected h places q (marks_from set.words)
        → MarksWritten (marks_from set.words) n b after → count ≡ count_to 256 (λ i. get_or (marks_from set.words) i false)
        → Runs h places q b after (Ok count)
    unfolding Runs Selected MarksWritten
    run_done n w set count after f g l i x z R v c k =
        let size : n ≡ length R.pages = f ∙ pages_are v in
        let few : n ≤ 256 = omega (arith, pages_few v) in
        let marks : marks_from set.words ≡ marks_of R n c = i R v c k ∙ ap (λ j. marks_of R j c) (sym size) in
        answers _ (accepted (map (selects c R) R.pages)) b after _
        (run_is R v c k ∙ rw (le-ltb (length b) (length R.pages) (omega arith)))
        (ap accepted (z ∙ marks_count R c n size few (marks_from set.words) marks))
        (x few (omega arith) ∙ ap₂ (λ x y. x ++ drop y b) (marks_bytes R c n size few (marks_from set.words) marks) (size ∙ sym (length-map R.pages (selects c R))))

-- select
pub selected_by : (h : Bytes) (places : List ℕ) (q : Bytes) (n : ℕ) (r : Evaluated) → n ≡ count_in q → Evaluates h places q n (stack_at q n) r → Selected h places q (marks_from r.set.words)
unfolding Selected Evaluates Means
selected_by h places q n r is found R v c k = means.0
  where
    means : Means R (length R.pages) q n (Some (c ∷ [])) r
    means = rw (ap (stack_at q) is ∙ k.stack) at (found R v)

-- ask
module _ (q h b : Bytes) (queried : Bool) (is : queried ≡ is_some (held_query q)) where
  asks : (d : Answer (List Bool)) (after : Bytes) (r : Result ℕ Refusal) → ask_call q h b ≡ d → answer_of r ≡ asked d → after ≡ marks_in b d → Asks q h b after r
  asks d after r e f g = record { answer = f ∙ sym (ap asked e); buffer = g ∙ sym (ap (marks_in b) e) }

  pub ask_unqueried : not queried ≡ true → Asks q h b b (Err Refusal.NoQuery)
  unfolding ask_call
  ask_unqueried e = asks (refused 21) b _ (rw (no_query (held_query q) (sym is ∙ not-true queried e))) refl refl

  module _ (e : not queried ≡ false) where
    held : (c : Core) × (held_query q ≡ Some c)
    held = some_query (held_query q) (sym is ∙ not-false queried e)

    module _ (g : Bytes) (places : List ℕ) (opened : Bool) (f : g ≡ part h 0 register_size) (opens : Opens g (replicate 2368 0) places opened) where
      pub ask_unopened : not opened ≡ true → Asks q h b b (Err Refusal.NoAskedRegister)
      unfolding ask_call
      ask_unopened n = asks (refused 22) b _ (rw (held.1, held_none h g f _ places opened opens n)) refl refl

      pub ask_run : (after : Bytes) (r : Result ℕ Refusal) → not opened ≡ false → Runs g places q b after r → Asks q h b after r
      unfolding ask_call Runs run_into
      ask_run after r n w =
          let o : Opened g places (register_in g) = record {
            form = held_form h g f _ places opened opens n;
            register = refl;
            pages = opens.places (length-replicate {A = ℕ} 2368 0) (not-false opened n);
          } in
          let a : Answers (run_into b held.0 (register_in g)) b after r = w (register_in g) o held.0 (held_holds q held.0 held.1) in
          asks (run_into b held.0 (register_in g)) after r (rw (held.1, held_some h g f _ places opened opens n)) a.answer a.buffer
