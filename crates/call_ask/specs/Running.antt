-- Working definitions: what a run of a held query on a register that was opened answers.
use Rattle.std.specs.Prelude.{ℕ, ◌≤◌, ◌≡◌, Bool, false, cond, List, ◌++◌, ltb, length, get_or, drop, Result}
use Rattle.text.specs.Bytes.{Bytes}
use Rattle.text.specs.Table.{bit, tabulate}
use Rattle.language.specs.Answer.{Answer, refused, accepted, and_then}
use Rattle.language.specs.Core.{Core}
use Rattle.language.specs.declared.refusals.Refusal.{Refusal}
use Rattle.language.specs.Register.{Register}
use Rattle.language.specs.Semantics.{run}
use Rattle.query_core.specs.Stack.{HoldsCore}
use Rattle.register_form.specs.Opened.{Opened}
use Rattle.ask_evaluation.specs.Meaning.{marks_of}
use Rattle.call_answers.specs.Calls.{marks_in}
use Rattle.call_ask.specs.Call.{answer_of, asked}

-- The first n marks as bytes at the front of the buffer b, where there is room.
unfoldable pub MarksWritten : List Bool → ℕ → Bytes → Bytes → Type 0
MarksWritten marks n b after = n ≤ 256 → n ≤ length b → after ≡ tabulate n (λ i. bit (get_or marks i false)) ++ drop n b

-- The run of a core query on a register, with a buffer b: the marks, or 23 or 24.
unfoldable pub run_into : Bytes → Core → Register → Answer (List Bool)
run_into b c R = and_then (run c R) (λ marks. cond (ltb (length b) (length R.pages)) (refused 24) (accepted marks))

-- What an answer returns and leaves in the buffer.
pub record Answers (a : Answer (List Bool)) (b after : Bytes) (r : Result ℕ Refusal) : Type 0 where
  pub answer : answer_of r ≡ asked a
  pub buffer : after ≡ marks_in b a

-- The marks are those of the pages that a held query selects.
unfoldable pub Selected : Bytes → List ℕ → Bytes → List Bool → Type 0
Selected h places q marks = (R : Register) → Opened h places R → (c : Core) → HoldsCore q c → marks ≡ marks_of R (length R.pages) c

unfoldable pub Runs : Bytes → List ℕ → Bytes → Bytes → Bytes → Result ℕ Refusal → Type 0
Runs h places q b after r = (R : Register) → Opened h places R → (c : Core) → HoldsCore q c → Answers (run_into b c R) b after r
