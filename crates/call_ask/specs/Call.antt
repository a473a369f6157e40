-- What the ask call promises inside: the refusal or how many pages are marked, and every byte of the buffer.
use Rattle.std.specs.Prelude.{ℕ, ◌≡◌, Bool, List, Result, Ok, Err}
use Rattle.text.specs.Bytes.{Bytes}
use Rattle.language.specs.Answer.{Answer, refused, accepted}
use Rattle.language.specs.Refusals.{refusal_number}
use Rattle.language.specs.declared.refusals.Refusal.{Refusal}
use Rattle.call_answers.specs.Calls.{ask_call, marked, marks_in}

-- A refusal's number, or how many pages are marked.
abbrev pub answer_of : Result ℕ Refusal → Answer ℕ
answer_of (Ok n) = accepted n
answer_of (Err r) = refused (refusal_number r)

abbrev pub asked : Answer (List Bool) → Answer ℕ
asked (refused n) = refused n
asked (accepted m) = accepted (marked m)

pub record Asks (q h b after : Bytes) (r : Result ℕ Refusal) : Type 0 where
  pub answer : answer_of r ≡ asked (ask_call q h b)
  pub buffer : after ≡ marks_in b (ask_call q h b)
