-- What a call returns to C, by the refusal that it answers.
use Rattle.std.specs.Prelude.{Result, Ok, Err}
use Prim.Native.Nat.{ℕ, zero, suc, ◌≤◌, ◌<◌}
use mathlib.Core.Path.{◌≡◌, refl, sym, ap, ◌∙◌}
use mathlib.Core.Bool.{Bool, true, false}
use mathlib.Core.List.{List, [], ◌∷◌, map}
use native.Mathlib.Omega.{arith}
use lib.ListN.{length, length-map}
use lib.IntN.{ℤ, pos, neg_ℤ, ◌-ℤ◌, +ℤ_idl}
use lib.Signed.{mag}
use mir.Syntax.{w32}
use mir.Val.{SFits, to_z, of_z}
use mir.ValLaws.{to_z_pos, to_z-of_z}
use Rattle.text.specs.Bytes.{Bytes}
use Rattle.language.specs.Answer.{Answer, refused, accepted, Answered}
use Rattle.language.specs.Answer as Answers
use Rattle.language.specs.Refusals.{refusal_number, number_of}
use Rattle.language.specs.declared.refusals.Refusal.{Refusal}
use Rattle.language.specs.Semantics.{selects}
use Rattle.language.proofs.Rules.{register_rules}
use Rattle.register_form.proofs.Forms.{held_is}
use Rattle.register_form.proofs.Rules.{within}
use Rattle.call_ask.specs.Call.{answer_of, asked, Asks}
use Rattle.call_answers.specs.Calls.{ask_call, marked, returned, AskCall}
use Rattle.call_answers.proofs.First.{run_is, ran}

-- a small number as 32 bits with a sign
module _ (n : ℕ) (h : n ≤ 256) where
  pub small_is : to_z w32 n ≡ pos n
  small_is = to_z_pos w32 n (let y : n < 2147483648 = omega (arith, h) in y)

  less : pos 0 -ℤ to_z w32 n ≡ neg_ℤ (pos n)
  less = ap (λ z. pos 0 -ℤ z) small_is ∙ +ℤ_idl (neg_ℤ (pos n))

  negative_fits : SFits w32 (neg_ℤ (pos n))
  negative_fits = record { sfits = go n h }
    where
      go : (n : ℕ) → n ≤ 256 → mag (neg_ℤ (pos n)) < 2147483648
      go zero h = omega arith
      go (suc n) h = omega (arith, h)

  pub negated_fits : SFits w32 (pos 0 -ℤ to_z w32 n)
  negated_fits = rw less negative_fits

  -- passed on as bits
  pub negative_passed : (z : ℤ) → z ≡ neg_ℤ (pos n) → to_z w32 (of_z w32 z) ≡ neg_ℤ (pos n)
  negative_passed z e = rw e (to_z-of_z w32 (neg_ℤ (pos n)) negative_fits)

  pub negated_is : to_z w32 (of_z w32 (pos 0 -ℤ to_z w32 n)) ≡ neg_ℤ (pos n)
  negated_is = negative_passed (pos 0 -ℤ to_z w32 n) less

  pub count_passed : (z : ℤ) → z ≡ pos n → to_z w32 (of_z w32 z) ≡ pos n
  count_passed z e = rw e (to_z-of_z w32 (pos n) (record { sfits = let y : n < 2147483648 = omega (arith, h) in y }))

-- Every refusal's number is small, and none is 0.
pub refusal_between : (r : Refusal) → (1 ≤ refusal_number r) × (refusal_number r ≤ 256)
refusal_between Refusal.TextTooLong = (omega arith, omega arith)
refusal_between Refusal.TextUnread = (omega arith, omega arith)
refusal_between Refusal.RuleBroken = (omega arith, omega arith)
refusal_between Refusal.DeclaredTwice = (omega arith, omega arith)
refusal_between Refusal.UndeclaredValue = (omega arith, omega arith)
refusal_between Refusal.UnfitValue = (omega arith, omega arith)
refusal_between Refusal.OverLimit = (omega arith, omega arith)
refusal_between Refusal.RegisterTooShort = (omega arith, omega arith)
refusal_between Refusal.NoRegister = (omega arith, omega arith)
refusal_between Refusal.QueryTooLong = (omega arith, omega arith)
refusal_between Refusal.QueryUnread = (omega arith, omega arith)
refusal_between Refusal.TooDeep = (omega arith, omega arith)
refusal_between Refusal.BadName = (omega arith, omega arith)
refusal_between Refusal.BadPiece = (omega arith, omega arith)
refusal_between Refusal.Undeclared = (omega arith, omega arith)
refusal_between Refusal.UnfitPiece = (omega arith, omega arith)
refusal_between Refusal.TooManyNodes = (omega arith, omega arith)
refusal_between Refusal.QueryTooShort = (omega arith, omega arith)
refusal_between Refusal.NoQuery = (omega arith, omega arith)
refusal_between Refusal.NoAskedRegister = (omega arith, omega arith)
refusal_between Refusal.Mismatch = (omega arith, omega arith)
refusal_between Refusal.MarksTooShort = (omega arith, omega arith)
refusal_between Refusal.KindsClash = (omega arith, omega arith)
refusal_between Refusal.TreeTooShort = (omega arith, omega arith)
refusal_between Refusal.NoTree = (omega arith, omega arith)

pub refusal_few : (r : Refusal) → refusal_number r ≤ 256
refusal_few r = (refusal_between r).1

number_few : {A : Type 0} (a : Result A Refusal) → number_of a ≤ 256
number_few (Ok a) = omega arith
number_few (Err r) = refusal_few r

returned_number : {A : Type 0} (a : Answer A) → neg_ℤ (pos (Answers.number_of a)) ≡ returned (λ x. 0) a
returned_number (refused n) = refl
returned_number (accepted a) = refl

pub answered_number : {B : Type 0} (c : Answer B) (b after : B) (n : ℕ) → Answered c b n after → neg_ℤ (pos n) ≡ returned (λ x. 0) c
answered_number c b after n r = ap (λ m. neg_ℤ (pos m)) r.number ∙ returned_number c

-- What a call returns that answers nothing but its refusal.
pub call_returns : {A B : Type 0} (c : Answer B) (b after : B) (a : Result A Refusal) → Answered c b (number_of a) after → (z : ℤ) → z ≡ neg_ℤ (pos (number_of a)) → to_z w32 (of_z w32 z) ≡ returned (λ x. 0) c
call_returns c b after a r z e = negative_passed (number_of a) (number_few a) z e ∙ answered_number c b after (number_of a) r

-- no more pages are marked than there are
marked_few : (l : List Bool) → marked l ≤ length l
unfolding marked
marked_few [] = omega arith
marked_few (true ∷ l) = let y = marked_few l in omega (arith, y)
marked_few (false ∷ l) = let y = marked_few l in omega (arith, y)

asked_few : (q h b : Bytes) (m : List Bool) → ask_call q h b ≡ accepted m → marked m ≤ 256
asked_few q h b m e =
    let r = ran q h b m e in
    let is : m ≡ map (selects r.core r.register) r.register.pages = (run_is r.core r.register m r.runs).1 in
    let long : length m ≡ length r.register.pages = ap length is ∙ length-map r.register.pages (selects r.core r.register) in
    let few = (within r.register (register_rules r.register (held_is h r.register r.holds).0).limits).pages in
    let y = marked_few m in
    omega (arith, y, long, few)

-- What the ask call returns.
number_in : Answer ℕ → ℕ
number_in (refused n) = n
number_in (accepted n) = n

module _ (q h b after : Bytes) (a : Result ℕ Refusal) (r : Asks q h b after a) where
  pub refused_by : (f : Refusal) → a ≡ Err f → ask_call q h b ≡ refused (refusal_number f)
  unfolding number_in
  refused_by f e = go (ask_call q h b) refl (sym (ap answer_of e) ∙ r.answer)
    where
      go : (x : Answer (List Bool)) → ask_call q h b ≡ x → refused (refusal_number f) ≡ asked x → ask_call q h b ≡ refused (refusal_number f)
      go (refused m) w p = w ∙ ap refused (sym (ap number_in p))
      go (accepted l) w p = cc

  pub marked_by : (k : ℕ) → a ≡ Ok k → (m : List Bool) × (ask_call q h b ≡ accepted m) × (k ≡ marked m)
  unfolding number_in
  marked_by k e = go (ask_call q h b) refl (sym (ap answer_of e) ∙ r.answer)
    where
      go : (x : Answer (List Bool)) → ask_call q h b ≡ x → accepted k ≡ asked x → (m : List Bool) × (ask_call q h b ≡ accepted m) × (k ≡ marked m)
      go (refused m) w p = cc
      go (accepted l) w p = (l, w, ap number_in p)

  pub marks_few : (n : ℕ) → a ≡ Ok n → n ≤ 256
  marks_few n e = let k = marked_by n e in rw k.2 (asked_few q h b k.0 k.1)

  pub refusal_returns : (f : Refusal) → a ≡ Err f → (z : ℤ) → z ≡ neg_ℤ (pos (refusal_number f)) → AskCall q h b after (to_z w32 (of_z w32 z))
  refusal_returns f e z p = record { number = negative_passed (refusal_number f) (refusal_few f) z p ∙ ap (returned marked) (sym (refused_by f e)); buffer = r.buffer }

  pub marks_return : (n : ℕ) → a ≡ Ok n → (z : ℤ) → (n ≤ 256 → z ≡ pos n) → AskCall q h b after (to_z w32 (of_z w32 z))
  marks_return n e z p =
      let k = marked_by n e in
      record { number = count_passed n (marks_few n e) z (p (marks_few n e)) ∙ ap pos k.2 ∙ ap (returned marked) (sym k.1); buffer = r.buffer }
