-- The ways through the answer.
use Rattle.std.specs.Prelude.{Some, Result, Ok, Err}
use Prim.Native.Nat.{ℕ, zero, suc, ◌≤◌, ◌<◌}
use mathlib.Core.Path.{◌≡◌, refl, sym, ap, ◌∙◌, subst}
use mathlib.Core.Bool.{Bool, true, false, cond}
use mathlib.Core.List.{List, [], ◌∷◌, ◌++◌, map}
use native.Mathlib.Omega.{arith}
use borrow.Author.Tests.{le-ltb}
use lib.Dec.{ltb, eqb}
use lib.IntN.{pos, neg_ℤ}
use lib.ListN.{length, get_or, drop, replicate, length-replicate, length-map}
use Rattle.text.specs.Bytes.{Bytes, bytes}
use Rattle.text.specs.Table.{bit}
use Rattle.language.specs.Answer.{Answer, refused, accepted, number_of, or_refuse, Answered, and_then}
use Rattle.language.specs.Register.{Register}
use Rattle.language.specs.RegisterText.{read_register}
use Rattle.language.specs.Core.{Core}
use Rattle.language.specs.Semantics.{selects, run}
use Rattle.language.specs.Calls.{core_of}
use Rattle.language.proofs.Rules.{register_rules}
use Rattle.register_form.specs.Form.{register_size, form_of, placed, stored, held_register}
use Rattle.register_form.specs.Opened.{page_in}
use Rattle.register_form.proofs.Forms.{held_is}
use Rattle.register_form.proofs.Rules.{within}
use Rattle.query_core.specs.Held.{query_size, held_query}
use Rattle.query_core.specs.Form.{query_of}
use Rattle.call_ask.specs.Call.{Asks}
use Rattle.language.specs.Refusals as Refusals
use Rattle.language.specs.Refusals.{refusal_number}
use Rattle.language.specs.declared.refusals.Refusal.{Refusal}
use Rattle.call_answers.specs.Calls.{register_call, written_in, query_call, ask_call, marked, marks_in, RegisterCall, QueryCall}
use Rattle.call_answers.proofs.First.{run_is, register_stores, query_stores}
use Rattle.call_answers.proofs.Demands.{asked_is}
use Rattle.vetxarno.proofs.Numbers.{refusal_between, refusal_few, answered_number, refused_by, marked_by, marks_few}
use Rattle.program_listing.specs.Listing.{decimal, lines_to, listing, outcome, asklist, Lists}
use Rattle.program_listing.specs.Appends.{Appends}
use Rattle.program_listing.specs.Answering.{of_core, of_text, is_marked, AppendsList, AppendsRefusal, AnswersCore, AnswersText}
use Rattle.program_listing.proofs.Lines.{lines_same}
use Rattle.program_listing.proofs.Whole.{lists}

-- what a buffer that is long enough changes: nothing
roomy : {A B : Type 0} (n m k : ℕ) (a : Answer A) (f : A → B) → m ≤ n → and_then a (λ x. cond (ltb n m) (refused k) (accepted (f x))) ≡ and_then a (λ x. accepted (f x))
roomy n m k a f l = ap (λ b. and_then a (λ x. cond b (refused k) (accepted (f x)))) (le-ltb n m l)

-- a buffer of n zeros is long enough
pub zeros_room : (n : ℕ) → n ≤ length {A = ℕ} (replicate n 0)
zeros_room n = omega (arith, length-replicate {A = ℕ} n 0)

then_accepted : {A : Type 0} (a : Answer A) → and_then a (λ x. accepted x) ≡ a
then_accepted (refused n) = refl
then_accepted (accepted x) = refl

-- a mark's byte is 1 where the page is marked
mark_byte : (m : List Bool) (x : Bytes) (i : ℕ) → i < length m → eqb (get_or (map bit m ++ x) i 0) 1 ≡ get_or m i false
mark_byte [] x i l = absurd (omega (arith, l))
mark_byte (true ∷ m) x zero l = refl
mark_byte (false ∷ m) x zero l = refl
mark_byte (b ∷ m) x (suc i) l = mark_byte m x i (omega (arith, l))

-- answer_core
module _ (q h b marks : Bytes) (a : Result ℕ Refusal) (room : 256 ≤ length b) (k : Asks q h b marks a) (out after : Bytes) (r : ℕ) where
  runs : (c : Core) (R : Register) → held_query q ≡ Some c → held_register h ≡ Some R → ask_call q h b ≡ run c R
  runs c R e p =
      let few = (within R (register_rules R (held_is h R p).0).limits).pages in
      asked_is q h b c R e p ∙ roomy (length b) (length R.pages) 24 (run c R) (λ m. m) (omega (arith, few, room)) ∙ then_accepted (run c R)

  -- what the lines are, by the marks that the run gave
  marked_lines : (c : Core) (R : Register) (m : List Bool) → run c R ≡ accepted m → ask_call q h b ≡ accepted m
      → lines_to (length R.pages) (is_marked marks) (page_in R) ≡ lines_to (length R.pages) (λ i. get_or m i false) (page_in R)
  marked_lines c R m e g =
      let long : length m ≡ length R.pages = ap length (run_is c R m e).1 ∙ length-map R.pages (selects c R) in
      let held : marks ≡ map bit m ++ drop (length m) b = k.buffer ∙ ap (marks_in b) g in
      lines_same (length R.pages) (is_marked marks) (λ i. get_or m i false) (page_in R)
      (λ i l. ap (λ x. is_marked x i) held ∙ mark_byte m (drop (length m) b) i (omega (arith, l, long)))

  pub core_refused : (f : Refusal) → a ≡ Err f → AppendsRefusal (refusal_number f) out after r → AnswersCore q h out after r
  unfolding AnswersCore of_core AppendsRefusal
  core_refused f g w c R e p =
      let few = refusal_few f in
      let is : run c R ≡ refused (refusal_number f) = sym (runs c R e p) ∙ refused_by q h b marks a k f g in
      subst (λ x. Appends out 0 (outcome (and_then x (λ m. accepted (listing R m)))) after r) (sym is) (w (omega (arith, few)))

  pub core_marked : (n : ℕ) → a ≡ Ok n → AppendsList h n marks out after r → AnswersCore q h out after r
  unfolding AnswersCore of_core AppendsList listing
  core_marked n g w c R e p =
      let few = marks_few q h b marks a k n g in
      let (m, x, count) = marked_by q h b marks a k n g in
      let is : run c R ≡ accepted m = sym (runs c R e p) ∙ x in
      subst (λ x. Appends out 0 (outcome (and_then x (λ m. accepted (listing R m)))) after r) (sym is)
      (subst (λ l. Appends out 0 (bytes "pages " ++ decimal (marked m) ++ (10 ∷ []) ++ l) after r) (marked_lines c R m is x)
      (subst (λ j. Appends out 0 (bytes "pages " ++ decimal j ++ (10 ∷ []) ++ lines_to (length R.pages) (is_marked marks) (page_in R)) after r) count (w R p (omega (arith, few)))))

-- a call that refused
refused_first : {A : Type 0} (a : Answer A) (f : Refusal) (g : A → Answer Bytes) (out after : Bytes) (r : ℕ) → refusal_number f ≡ number_of a → AppendsRefusal (refusal_number f) out after r → Appends out 0 (outcome (and_then a g)) after r
unfolding AppendsRefusal
refused_first (refused m) f g out after r e w = subst (λ j. Appends out 0 (outcome (refused j)) after r) e (w (omega (arith, refusal_few f)))
refused_first (accepted x) f g out after r e w = absurd (omega (arith, e, refusal_between f))

-- answer_text
module _ {A : Type 0} (h s b q : Bytes) (a : Result A Refusal) (room : 29794 ≤ length b) (k : Answered (query_call h s b) b (Refusals.number_of a) q) (out after : Bytes) (r : ℕ) where
  abbrev n : ℕ
  n = Refusals.number_of a

  text_number_lem : (R : Register) → held_register h ≡ Some R → n ≡ number_of (core_of R s)
  unfolding query_call written_in
  text_number_lem R p =
      k.number
      ∙ ap number_of
      (ap (λ o. and_then (or_refuse 11 o) (λ R. and_then (core_of R s) (λ c. written_in 20 query_size (query_of c) b))) p
      ∙ roomy (length b) query_size 20 (core_of R s) (λ c. query_of c ++ drop query_size b) room)
      ∙ same (core_of R s)
    where
      same : (a : Answer Core) → number_of (and_then a (λ c. accepted (query_of c ++ drop query_size b))) ≡ number_of a
      same (refused m) = refl
      same (accepted c) = refl

  pub text_refused : (f : Refusal) → a ≡ Err f → AppendsRefusal (refusal_number f) out after r → AnswersText h s out after r
  unfolding AnswersText of_text
  text_refused f e w R p = refused_first (core_of R s) f (λ c. and_then (run c R) (λ m. accepted (listing R m))) out after r (sym (ap Refusals.number_of e) ∙ text_number_lem R p) w

  pub text_core : (x : A) → a ≡ Ok x → AnswersCore q h out after r → AnswersText h s out after r
  unfolding AnswersText AnswersCore of_text of_core
  text_core x z w R p =
      let call : QueryCall h s b q (pos 0) = record { number = ap (λ (a : Result A Refusal). neg_ℤ (pos (Refusals.number_of a))) (sym z) ∙ answered_number (query_call h s b) b q n k; buffer = k.bytes } in
      let c = query_stores h s b q call in
      let own : c.register ≡ R = let x = c.holds in cc in
      let e : core_of R s ≡ accepted c.core = rw (← own) c.fits in
      subst (λ a. Appends out 0 (outcome (and_then a (λ c. and_then (run c R) (λ m. accepted (listing R m))))) after r) (sym e) (w c.core R c.left.held p)

-- answer
module _ {A : Type 0} (t s h held : Bytes) (a : Result A Refusal) (room : 63628 ≤ length h) (k : Answered (register_call t h) h (Refusals.number_of a) held) (out after : Bytes) (r : ℕ) where
  abbrev number : ℕ
  number = Refusals.number_of a

  register_number : number ≡ number_of (read_register t)
  unfolding register_call stored placed
  register_number =
      k.number ∙ ap number_of (roomy (length h) register_size 8 (read_register t) (λ R. form_of R ++ drop register_size h) room) ∙ same (read_register t)
    where
      same : (a : Answer Register) → number_of (and_then a (λ R. accepted (form_of R ++ drop register_size h))) ≡ number_of a
      same (refused m) = refl
      same (accepted R) = refl

  pub answer_refused : (f : Refusal) → a ≡ Err f → AppendsRefusal (refusal_number f) out after r → Lists t s out after r
  unfolding asklist
  answer_refused f e w =
      lists t s out after r (refused_first (read_register t) f (λ R. and_then (core_of R s) (λ c. and_then (run c R) (λ m. accepted (listing R m)))) out after r (sym (ap Refusals.number_of e) ∙ register_number) w)

  pub answer_held : (x : A) → a ≡ Ok x → AnswersText held s out after r → Lists t s out after r
  unfolding asklist AnswersText of_text
  answer_held x z w =
      let call : RegisterCall t h held (pos 0) = record { number = ap (λ (a : Result A Refusal). neg_ℤ (pos (Refusals.number_of a))) (sym z) ∙ answered_number (register_call t h) h held number k; buffer = k.bytes } in
      let l = register_stores t h held call in
      lists t s out after r
      (subst (λ a. Appends out 0 (outcome (and_then a (λ R. and_then (core_of R s) (λ c. and_then (run c R) (λ m. accepted (listing R m)))))) after r) (sym l.reads)
      (w l.register l.left.held))
