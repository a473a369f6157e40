-- The ways through the three calls.
use Rattle.std.specs.Prelude.{Option, Some, None, Result, Ok, Err, IsErr, IsErrAnd}
use Prim.Native.Nat.{ℕ, ◌≤◌, ◌<◌}
use mathlib.Core.Path.{◌≡◌, refl, sym, ap, subst, ◌∙◌}
use mathlib.Core.Bool.{Bool, true, false, not, true≢false}
use mathlib.Core.List.{List}
use native.Mathlib.Omega.{arith}
use borrow.Author.Tests.{lt-ltb, le-ltb, not-true, not-false}
use lib.ListN.{length, take, replicate}
use Rattle.text.specs.Bytes.{Bytes, part}
use Rattle.buffer.specs.Numbers.{zeros}
use Rattle.buffer.specs.Writing.{written}
use Rattle.language.specs.Answer.{Answer, refused, accepted, number_of as answered, Answered, and_then, found}
use Rattle.language.specs.Refusals.{refusal_number, number_of}
use Rattle.language.specs.declared.refusals.Refusal.{Refusal}
use Rattle.language.specs.Register.{Typing, kinds_of}
use Rattle.language.specs.Surface.{Query}
use Rattle.language.specs.QueryText.{read_text}
use Rattle.language.specs.Core.{Core}
use Rattle.language.specs.Elaboration.{fit}
use Rattle.language.specs.Calls.{core_of}
use Rattle.language.proofs.Members.{and_true}
use Rattle.register_form.specs.Form.{register_size, register_in, held_register}
use Rattle.register_form_test.specs.Opening.{Opens}
use Rattle.register_form_test.proofs.Held.{held_none, held_some}
use Rattle.query_tree_spelling.specs.Spelled.{is_spelled, has_text}
use Rattle.query_tree_spelling.proofs.Some.{accepted_has_text}
use Rattle.query_tree.specs.Form.{tree_size, tree_of, held_tree}
use Rattle.query_tree.proofs.Held.{held_tree_lem, tree_back, length_tree}
use Rattle.query_core.specs.Held.{query_size}
use Rattle.query_core.specs.Form.{query_of}
use Rattle.query_core.proofs.Forms.{length_query}
use Rattle.query_core.proofs.Elaborated.{fitted_core}
use Rattle.query_text_read.specs.Answers.{ReadsText}
use Rattle.query_core_fit.specs.Answers.{FitsTree}
use Rattle.call_answers.specs.Calls.{written_in, query_call, read_call, fit_call}
use Rattle.call_query.specs.Stages.{TestsRegister, fitted_in, FitsInto}
use Rattle.call_query.proofs.Copies.{front_is}
use Rattle.call_query.proofs.Zeros.{zero_read, zero_fit}

-- Whether a register is held.
pub opened_is : (h g : Bytes) (before after : List ℕ) (r : Bool) → g ≡ part h 0 register_size → Opens g before after r → TestsRegister h r
opened_is h g before after r e o = go r refl
  where
    go : (b : Bool) → r ≡ b → TestsRegister h b
    go true f = held_some h g e before after r o (rw f) ∙ ap (λ (x : Bytes). Some (register_in x)) e
    go false f = held_none h g e before after r o (rw f)

-- A number other than 0 refuses.
-- What `?` hands on is the refusal that it met.
pub handed : {A : Type 0} (r : Result A Refusal) (e : Refusal) → IsErr r × IsErrAnd r (λ x. x ≡ e) → r ≡ Err e
handed (Ok a) e h = absurd h.1
handed (Err x) e h = ap Err h.1

positive : (x : Refusal) → refusal_number x ≡ 0 → ⊥
positive Refusal.TextTooLong e = omega (arith, e)
positive Refusal.TextUnread e = omega (arith, e)
positive Refusal.RuleBroken e = omega (arith, e)
positive Refusal.DeclaredTwice e = omega (arith, e)
positive Refusal.UndeclaredValue e = omega (arith, e)
positive Refusal.UnfitValue e = omega (arith, e)
positive Refusal.OverLimit e = omega (arith, e)
positive Refusal.RegisterTooShort e = omega (arith, e)
positive Refusal.NoRegister e = omega (arith, e)
positive Refusal.QueryTooLong e = omega (arith, e)
positive Refusal.QueryUnread e = omega (arith, e)
positive Refusal.TooDeep e = omega (arith, e)
positive Refusal.BadName e = omega (arith, e)
positive Refusal.BadPiece e = omega (arith, e)
positive Refusal.Undeclared e = omega (arith, e)
positive Refusal.UnfitPiece e = omega (arith, e)
positive Refusal.TooManyNodes e = omega (arith, e)
positive Refusal.QueryTooShort e = omega (arith, e)
positive Refusal.NoQuery e = omega (arith, e)
positive Refusal.NoAskedRegister e = omega (arith, e)
positive Refusal.Mismatch e = omega (arith, e)
positive Refusal.MarksTooShort e = omega (arith, e)
positive Refusal.KindsClash e = omega (arith, e)
positive Refusal.TreeTooShort e = omega (arith, e)
positive Refusal.NoTree e = omega (arith, e)

refused_by : {A : Type 0} (a : Answer A) (n : ℕ) → n ≡ answered a → (n ≡ 0 → ⊥) → a ≡ refused n
refused_by (refused m) n e z = ap refused (sym e)
refused_by (accepted x) n e z = absurd (z e)

refuses : {A B : Type 0} (a : Answer A) (f : A → Answer B) (b : B) (n : ℕ) → a ≡ refused n → Answered (and_then a f) b n b
refuses a f b n e = rw e (record { number = refl; bytes = refl })

-- A form that is written, or for which the buffer is too short.
module _ (n size : ℕ) (form b : Bytes) where
  short_answer : length b < size → Answered (written_in n size form b) b n b
  unfolding written_in
  short_answer l = rw (lt-ltb (length b) size l) (record { number = refl; bytes = refl })

  full_answer : (b' : Bytes) → length form ≡ size → size ≤ length b → b' ≡ written b 0 form → Answered (written_in n size form b) b 0 b'
  unfolding written_in
  full_answer b' e l w = rw (le-ltb (length b) size l) (record { number = refl; bytes = w ∙ front_is b form size e l })

-- Fitting: t is the tree, g the register, s the scratch buffer after fitting.
module _ (t g b s : Bytes) (f : Result Unit Refusal) (F : FitsTree t (kinds_of (register_in g)) (replicate 29794 0) f s) where
  abbrev Γ : Typing
  Γ = kinds_of (register_in g)

  spelled : (q : Query) → has_text q ≡ true → is_spelled q ≡ true
  unfolding has_text
  spelled q h = (and_true (is_spelled q) _ h).0

  number_is : (q : Query) → has_text q ≡ true → t ≡ tree_of q → number_of f ≡ answered (fit Γ q)
  unfolding zeros
  number_is q h w = F.number q (rw w (tree_back q h)) (spelled q h) refl

  pub into_refused : (x : Refusal) → f ≡ Err x → FitsInto t g b (refusal_number x) b
  unfolding FitsInto fitted_in
  into_refused x z q h w = refuses (fit Γ q) (λ c. written_in 20 query_size (query_of c) b) b (refusal_number x) (refused_by (fit Γ q) (refusal_number x) (ap number_of (sym z) ∙ number_is q h w) (positive x))

  module _ (y : Unit) (z : f ≡ Ok y) where
    core : (q : Query) → has_text q ≡ true → t ≡ tree_of q → (c : Core) × (fit Γ q ≡ accepted c)
    core q h w = zero_fit Γ q (sym (number_is q h w) ∙ ap number_of z)

    pub into_short : length b < 29794 → FitsInto t g b 20 b
    unfolding FitsInto fitted_in
    into_short l q h w = let c = core q h w in rw c.1 (short_answer 20 query_size (query_of c.0) b l)

    pub into_accepted : (b' : Bytes) → 29794 ≤ length b → b' ≡ written b 0 s → FitsInto t g b 0 b'
    unfolding FitsInto fitted_in zeros
    into_accepted b' l p q h w =
        let c = core q h w in
        let is : s ≡ query_of c.0 = F.bytes q c.0 (rw w (tree_back q h)) (spelled q h) refl c.1 in
        rw c.1 (full_answer 20 query_size (query_of c.0) b b' (length_query c.0 (fitted_core Γ q c.0 (spelled q h) c.1)) l (p ∙ ap (written b 0) is))

pub ruleset fitting = (into_refused, into_short, into_accepted)

-- Reading: s is the text, u the scratch buffer after reading.
module _ (s u : Bytes) (r : Result Unit Refusal) (R : ReadsText s (replicate 5112 0) u r) where
  read_none : (x : Refusal) → r ≡ Err x → read_text s ≡ refused (refusal_number x)
  read_none x z = refused_by (read_text s) (refusal_number x) (ap number_of (sym z) ∙ R.number) (positive x)

  read_some : (y : Unit) → r ≡ Ok y → (q : Query) × (read_text s ≡ accepted q) × (has_text q ≡ true) × (u ≡ tree_of q)
  unfolding zeros
  read_some y z = let q = zero_read s (sym R.number ∙ ap number_of z) in (q.0, q.1, accepted_has_text s q.0 q.1, R.tree q.0 q.1 refl)

  module _ (b : Bytes) where
    pub read_refused : (x : Refusal) → r ≡ Err x → Answered (read_call s b) b (refusal_number x) b
    unfolding read_call
    read_refused x z = refuses (read_text s) (λ q. written_in 33 tree_size (tree_of q) b) b (refusal_number x) (read_none x z)

    pub read_short : (y : Unit) → r ≡ Ok y → length b < 5112 → Answered (read_call s b) b 33 b
    unfolding read_call
    read_short y z l = let q = read_some y z in rw q.1 (short_answer 33 tree_size (tree_of q.0) b l)

    pub read_accepted : (b' : Bytes) (y : Unit) → r ≡ Ok y → 5112 ≤ length b → b' ≡ written b 0 u → Answered (read_call s b) b 0 b'
    unfolding read_call
    read_accepted b' y z l p = let q = read_some y z in rw q.1 (full_answer 33 tree_size (tree_of q.0) b b' (length_tree q.0 q.2) l (p ∙ ap (written b 0) q.3))

  -- then fitting
  module _ (h b : Bytes) (o : Bool) (H : TestsRegister h o) (held : not o ≡ false) where
    open_is : held_register h ≡ Some (register_in (take register_size h))
    open_is = subst (TestsRegister h) (not-false o held) H

    pub query_unread : (x : Refusal) → r ≡ Err x → Answered (query_call h s b) b (refusal_number x) b
    unfolding query_call core_of
    query_unread x z = rw (open_is, read_none x z) (record { number = refl; bytes = refl })

    pub query_fits : (g b' : Bytes) (m : ℕ) (y : Unit) → r ≡ Ok y → g ≡ part h 0 register_size → FitsInto u g b m b' → Answered (query_call h s b) b m b'
    unfolding query_call core_of FitsInto fitted_in
    query_fits g b' m y z e F = let q = read_some y z in rw (open_is, q.1) (subst (λ (x : Bytes). Answered (fitted_in (kinds_of (register_in x)) q.0 b) b m b') e (F q.0 q.2 q.3))

pub query_unheld : (h s b : Bytes) (o : Bool) → TestsRegister h o → not o ≡ true → Answered (query_call h s b) b 11 b
unfolding query_call
query_unheld h s b o H e = rw (subst (TestsRegister h) (not-true o e) H) (record { number = refl; bytes = refl })

pub ruleset reading = (read_refused, read_short, read_accepted, query_unread, query_fits, query_unheld)

-- Fitting a tree that is lent.
module _ (t h b : Bytes) (o : Bool) (H : TestsRegister h o) where
  pub fit_unheld : not o ≡ true → Answered (fit_call t h b) b 11 b
  unfolding fit_call
  fit_unheld e = rw (subst (TestsRegister h) (not-true o e) H) (record { number = refl; bytes = refl })

  module _ (held : not o ≡ false) (y : Bool) (T : y ≡ found (held_tree t) (λ q. true) false) where
    is_open : held_register h ≡ Some (register_in (take register_size h))
    is_open = subst (TestsRegister h) (not-false o held) H

    pub fit_no_tree : not y ≡ true → Answered (fit_call t h b) b 34 b
    unfolding fit_call
    fit_no_tree e = go (held_tree t) refl
      where
        go : (w : Option Query) → held_tree t ≡ w → Answered (fit_call t h b) b 34 b
        go None f = rw (is_open, f) (record { number = refl; bytes = refl })
        go (Some q) f = absurd (true≢false (sym (T ∙ ap (λ (w : Option Query). found w (λ q. true) false) f) ∙ not-true y e))

    pub fit_tree : (u g b' : Bytes) (m : ℕ) → not y ≡ false → u ≡ part t 0 5112 → g ≡ part h 0 register_size → FitsInto u g b m b' → Answered (fit_call t h b) b m b'
    unfolding fit_call FitsInto fitted_in
    fit_tree u g b' m e i j F = go (held_tree t) refl
      where
        go : (w : Option Query) → held_tree t ≡ w → Answered (fit_call t h b) b m b'
        go None f = absurd (true≢false (sym (not-false y e) ∙ T ∙ ap (λ (w : Option Query). found w (λ q. true) false) f))
        go (Some q) f =
            let d = (held_tree_lem t q).0 f in
            rw (is_open, f) (subst (λ (x : Bytes). Answered (fitted_in (kinds_of (register_in x)) q b) b m b') j (F q d.has (i ∙ d.bytes)))

pub ruleset fits = (fit_unheld, fit_no_tree, fit_tree)
